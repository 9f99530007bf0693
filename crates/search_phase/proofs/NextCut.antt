-- A page shows the next cut of the list of its context, and its cursor is the last row of that cut.
use Rattle.std.proofs.Common.{◌≡◌, ℕ, Bool, true, false, cond, List, [], ◌∷◌, length, Option, None, refl, sym, ap, ◌∙◌}
use Rattle.std.specs.Prelude.{not, map, filter, filter_map, take, drop, is_some, ◌==◌}
use Rattle.std.specs.List.{AllByRecursion, list_all, last_or}
use Rattle.task_ids.specs.declared.doc.Doc.{Doc}
use Rattle.task_events.specs.declared.reply.FailedShard.{FailedShard}
use Rattle.task_events.specs.declared.reply.Hit.{Hit}
use Rattle.task_events.specs.declared.reply.Reply.TheVariants.{Search, AllFailed}
use Rattle.task_events.specs.declared.reply.SearchReply.{SearchReply}
use Rattle.task_events.specs.declared.reply.ShardCount.{ShardCount}
use Rattle.task_events.specs.declared.request.HitKey.{HitKey}
use Rattle.task_events.specs.HitOrder.{is_after}
use Rattle.task_events.specs.Answers.{found_keys, hit_of, has_failed, read_at, winners, plain_answer, ShardVersion}
use Rattle.task_events.specs.Readings.{Reading}
use Rattle.search_phase.proofs.Sorting.{by_test}
use Rattle.search_phase.proofs.Lookups.{list_all-take, list_all-drop}
use Rattle.search_phase.proofs.CursorCuts.{cut_at_cursor}
use Rattle.search_phase.proofs.KeysApart.{AreDifferent, found_spread}
use Rattle.search_phase.proofs.ListedHits.{filter_map-take, filter_map-drop, each_has_hit, each_of_shard}

-- what passes a filter as a whole stays as it is
filter_whole : {X : Type 0} (p : X → Bool) (xs : List X) → list_all p xs ≡ true → filter p xs ≡ xs
filter_whole p [] all = refl
filter_whole p (x ∷ xs) all =
    by_test (p x)
    (λ yes. rw yes (ap (λ l. x ∷ l) (filter_whole p xs (rw yes at all))))
    (λ no. absurd (let f : false ≡ true = rw no at all in cc))

all_read : (p : ℕ → Bool) (ns : List ShardCount) → list_all (λ n. p n.shard) ns ≡ true → AllByRecursion (λ (at : ShardVersion). p at.0 ≡ true) (map read_at ns)
all_read p [] all = tt
all_read p (n ∷ ns) all =
    by_test (p n.shard)
    (λ yes. (yes, all_read p ns (rw yes at all)))
    (λ no. absurd (let f : false ≡ true = rw no at all in cc))

module _ (r : Reading) (writes : ℕ → List Doc) (answered : List ShardCount) (failed : List FailedShard) where
  abbrev pub versions : List ShardVersion
  versions = map read_at answered

  abbrev pub keys : List HitKey
  keys = found_keys r.ask writes versions

  abbrev won : List HitKey
  won = winners r.ask.body (filter (is_after r.after) keys)

  abbrev of_key : HitKey → Option Hit
  of_key = hit_of r.ask.index writes versions

  -- what a good reply has of the answers
  pub good_parts : (found : SearchReply) → plain_answer r writes answered failed ≡ Search found → (found.shards ≡ answered) × (found.failed ≡ failed)
  good_parts found e = of_test (length failed == length r.shards) _ refl refl e
    where
      of_test : (b : Bool) (x : SearchReply) → x.shards ≡ answered → x.failed ≡ failed → cond b (AllFailed failed) (Search x) ≡ Search found → (found.shards ≡ answered) × (found.failed ≡ failed)
      of_test true x shards lost f = absurd (cc)
      of_test false x shards lost f =
          let same : x ≡ found = cc in
          (ap (λ (y : SearchReply). y.shards) (sym same) ∙ shards, ap (λ (y : SearchReply). y.failed) (sym same) ∙ lost)

  -- A reply shows the cut after so many rows, if these were shown before, and no shard that answered failed.
  pub record IsCut (n : ℕ) (found : SearchReply) : Type 0 where
    pub hits : found.hits ≡ take r.ask.body.size (drop n (filter_map of_key keys))
    pub last : found.last ≡ last_or None (take r.ask.body.size (drop n keys))

  module _ (apart : AreDifferent (map (λ (at : ShardVersion). at.0) versions)) (no_from : r.ask.body.from ≡ 0) (n : ℕ) (cursor : r.after ≡ last_or None (take n keys)) where
    next_won : won ≡ take r.ask.body.size (drop n keys)
    next_won =
        ap (λ from. take r.ask.body.size (drop from (filter (is_after r.after) keys))) no_from
        ∙ ap (λ after. take r.ask.body.size (filter (is_after after) keys)) cursor
        ∙ ap (take r.ask.body.size) (cut_at_cursor n keys (found_spread r.ask writes versions apart))

    next_hits : list_all (λ n. not (has_failed failed n.shard)) answered ≡ true → filter_map of_key (filter (λ key. not (has_failed failed key.shard)) won) ≡ take r.ask.body.size (drop n (filter_map of_key keys))
    next_hits given =
        let good : HitKey → Bool = λ key. not (has_failed failed key.shard) in
        let all_good : list_all good keys ≡ true = each_of_shard r.ask writes versions (λ shard. not (has_failed failed shard)) (all_read (λ shard. not (has_failed failed shard)) answered given) in
        let all_there : list_all (λ key. is_some (of_key key)) keys ≡ true = each_has_hit r.ask writes versions apart in
        let cut : List HitKey = take r.ask.body.size (drop n keys) in
        ap (λ l. filter_map of_key (filter good l)) next_won
        ∙ ap (filter_map of_key) (filter_whole good cut (list_all-take good r.ask.body.size (drop n keys) (list_all-drop good n keys all_good)))
        ∙ filter_map-take of_key r.ask.body.size (drop n keys) (list_all-drop (λ key. is_some (of_key key)) n keys all_there)
        ∙ ap (take r.ask.body.size) (filter_map-drop of_key n keys all_there)

    pub shows_cut : (found : SearchReply) → plain_answer r writes answered failed ≡ Search found → list_all (λ n. not (has_failed failed n.shard)) answered ≡ true → IsCut n found
    shows_cut found e given = of_test (length failed == length r.shards) _ refl refl e
      where
        of_test : (b : Bool) (x : SearchReply) → x.hits ≡ filter_map of_key (filter (λ key. not (has_failed failed key.shard)) won) → x.last ≡ last_or None won
            → cond b (AllFailed failed) (Search x) ≡ Search found → IsCut n found
        of_test true x hits last f = absurd (cc)
        of_test false x hits last f =
            let same : x ≡ found = cc in
            record {
              hits = ap (λ (y : SearchReply). y.hits) (sym same) ∙ hits ∙ next_hits given;
              last = ap (λ (y : SearchReply). y.last) (sym same) ∙ last ∙ ap (last_or None) next_won;
            }
