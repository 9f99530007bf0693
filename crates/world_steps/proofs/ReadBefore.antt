-- The versions that a search read were written when it ended.
use Rattle.std.proofs.Common.{◌≡◌, ◌<◌, ◌≤◌, ℕ, zero, suc, ◌+◌, List, [], ◌∷◌, length, Option, Some, None, refl, ap, subst, ◌∙◌, arith}
use Rattle.std.specs.Prelude.{map, filter_map, option_map, option_and_then, slice_get}
use Rattle.std.specs.List.{range_with_len}
use Rattle.std.specs.Option.{option_or}
use Rattle.task_ids.specs.declared.cluster.Cluster.{Cluster}
use Rattle.task_ids.specs.declared.corpus.Corpus.{Corpus}
use Rattle.task_ids.specs.declared.doc.Doc.{Doc}
use Rattle.task_ids.specs.declared.task_id.TaskId.{TaskId}
use Rattle.task_events.specs.declared.event.Event.{Event}
use Rattle.task_events.specs.declared.event.Event.TheVariants.{Work, Write}
use Rattle.task_events.specs.declared.reading.ShardRead.TheVariants.{Newest}
use Rattle.task_events.specs.declared.reply.Reply.{Reply}
use Rattle.task_events.specs.declared.reply.ShardTop.{ShardTop}
use Rattle.task_events.specs.declared.request.SearchAsk.{SearchAsk}
use Rattle.task_events.specs.Answers.{read_at}
use Rattle.task_events.specs.Documents.{writes_of}
use Rattle.task_events.specs.Readings.{search_reading}
use Rattle.task_events.specs.Same.{same_task}
use Rattle.task_events.specs.ShardOutcomes.{answered_shards, count_found, found_in, is_query_of}
use Rattle.task_events.specs.Steps.{before_first_turn}
use Rattle.task_events.specs.Written.{line_of, next_doc}
use Rattle.script_lang.specs.declared.command.Script.{Script}
use Rattle.command_roots.specs.Roots.{scripted}
use Rattle.search_phase.specs.Growth.{HaveGrown, AreWithin}
use Rattle.search_phase.proofs.Growth.{grown_twice, not_grown, within_later, writes_of-grow}
use Rattle.search_phase.proofs.Sorting.{by_test}
use Rattle.world_moves.specs.Good.{so_far}
use Rattle.world_moves.specs.Plain.{IsPlainReply, child_for, read_by}

module _ (cluster : Cluster) (corpus : Corpus) (script : Script) (index : List ℕ) where
  -- what is written so far to each shard of the index
  abbrev written_at : List Event → ℕ → List Doc
  written_at h = writes_of (so_far corpus script h) cluster.shards index

  -- what was written before the first turn of a task is written still
  pub began_before : (u : TaskId) (h past : List Event) → before_first_turn u h ≡ Some past → HaveGrown (written_at past) (written_at h)
  began_before u [] past e = absurd (cc)
  began_before u (Work v ∷ h) past e =
      by_test (same_task u v)
      (λ own. of_first (began_before u h) (before_first_turn u h) refl (rw own at e))
      (λ other. began_before u h past (rw other at e))
    where
      of_first : ((g : List Event) → before_first_turn u h ≡ Some g → HaveGrown (written_at g) (written_at h)) → (o : Option (List Event)) → before_first_turn u h ≡ o → option_or o (Some h) ≡ Some past → HaveGrown (written_at past) (written_at h)
      of_first earlier None first is = let same : h ≡ past = cc in subst (λ x. HaveGrown (written_at x) (written_at h)) same (not_grown (written_at h))
      of_first earlier (Some g) first is = earlier past (first ∙ is)
  began_before u (Write i shard outcome doc ∷ h) past e =
      grown_twice (written_at past) (written_at h) (written_at (Write i shard outcome doc ∷ h)) (began_before u h past e) (writes_of-grow (so_far corpus script h) (line_of i (next_doc (scripted script) h)) cluster.shards index)
  began_before u (_ ∷ h) past e = began_before u h past e

  -- the version that a task reads at first
  read_before : (shard version : ℕ) (h : List Event) (o : Option TaskId) → Some version ≡ option_and_then (λ u. read_by cluster (so_far corpus script) index shard u h) o → version ≤ length (written_at h shard)
  read_before shard version h None e = absurd (cc)
  read_before shard version h (Some u) e = of_past (before_first_turn u h) refl e
    where
      of_past : (o : Option (List Event)) → before_first_turn u h ≡ o → Some version ≡ option_map (λ past. length (written_at past shard)) o → version ≤ length (written_at h shard)
      of_past None began is = absurd (cc)
      of_past (Some past) began is =
          let same : version ≡ length (written_at past shard) = cc in
          within_later (written_at past) (written_at h) (began_before u h past began) shard version (omega (arith, same))

-- ---- of each shard that answered

at_place : (from many place : ℕ) → place < many → slice_get (map Newest (range_with_len from many)) place ≡ Some (Newest (from + place))
at_place from zero place low = absurd (omega arith)
at_place from (suc many) zero low = let same : from ≡ from + 0 = omega arith in ap (λ n. Some (Newest n)) same
at_place from (suc many) (suc place) low =
    let same : from + 1 + place ≡ from + suc place = omega arith in
    at_place (from + 1) many place (omega arith) ∙ ap (λ n. Some (Newest n)) same

module _ (ask : SearchAsk) (writes : ℕ → List Doc) (t : TaskId) (h : List Event) where
  newest_within : (from many : ℕ) → ((shard : ℕ) → from ≤ shard → shard < from + many → (top : ShardTop) → found_in t h shard ≡ Some top → top.version ≤ length (writes shard))
      → AreWithin writes (map read_at (filter_map (count_found ask writes t h) (map Newest (range_with_len from many))))
  newest_within from zero low = tt
  newest_within from (suc many) low =
      of_top (found_in t h from) refl (newest_within (from + 1) many (λ shard a b top e. low shard (omega (arith, a)) (omega (arith, b)) top e))
    where
      of_top : (o : Option ShardTop) → found_in t h from ≡ o → AreWithin writes (map read_at (filter_map (count_found ask writes t h) (map Newest (range_with_len (from + 1) many))))
          → AreWithin writes (map read_at (filter_map (count_found ask writes t h) (map Newest (range_with_len from (suc many)))))
      of_top None e rest = rw e rest
      of_top (Some top) e rest = rw e (low from (omega arith) (omega arith) top e, rest)

pub counts_within : (cluster : Cluster) (corpus : Corpus) (script : Script) (t : TaskId) (ask : SearchAsk) (h : List Event) (reply : Reply) → IsPlainReply cluster (so_far corpus script) t (search_reading t ask cluster.shards) h reply
    → let writes = writes_of (so_far corpus script h) cluster.shards ask.index in AreWithin writes (map read_at (answered_shards (search_reading t ask cluster.shards) writes t h))
counts_within cluster corpus script t ask h reply plain =
    newest_within ask (writes_of (so_far corpus script h) cluster.shards ask.index) t h 0 cluster.shards (λ shard low high top found.
    let place : 0 + shard ≡ shard = omega arith in
    let at = at_place 0 cluster.shards shard (omega (arith, high)) ∙ ap (λ n. Some (Newest n)) place in
    read_before cluster corpus script ask.index shard top.version h (child_for (is_query_of shard) t h) (plain.version shard (Newest shard) top at found))
