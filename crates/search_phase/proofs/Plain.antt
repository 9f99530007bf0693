-- A search whose answers are honest replies with the plain answer.
use Rattle.std.specs.Prelude.{◌≡◌, ℕ, ◌+◌, ◌-◌, ◌≤◌, ◌==◌, List, true, not, cond, Option, Some, None, is_some, option_and_then, map, filter, filter_map, drop, length, slice_get, refl}
use Rattle.std.proofs.Common.{sym, ◌∙◌, ap, arith}
use Rattle.std.proofs.lemmas.List.{length-map, length-drop}
use Rattle.std.specs.List.{sum_by, last_or, AllByRecursion}
use Rattle.task_ids.specs.declared.doc.Doc.{Doc}
use Rattle.task_events.specs.declared.reading.ShardRead.{ShardRead}
use Rattle.task_events.specs.declared.request.HitKey.{HitKey}
use Rattle.task_events.specs.declared.request.Request.TheVariants as asks
use Rattle.task_events.specs.declared.reply.ShardCount.{ShardCount}
use Rattle.task_events.specs.declared.reply.ShardTop.{ShardTop}
use Rattle.task_events.specs.declared.reply.FailedShard.{FailedShard}
use Rattle.task_events.specs.declared.reply.Reply.{Reply}
use Rattle.task_events.specs.declared.reply.Reply.TheVariants.{Search, Top, Hits, AllFailed, Wrote, Cancelled, Rejected}
use Rattle.task_events.specs.declared.step.Asked.{Asked}
use Rattle.task_events.specs.HitOrder.{is_after}
use Rattle.task_events.specs.Answers.{ShardVersion, has_failed, hit_of, found_keys, winners, read_at}
use Rattle.task_events.specs.Kinds.{can_have}
use Rattle.task_events.specs.Readings.{Reading, shard_read}
use Rattle.task_events.specs.Searches.{query_of, top_of, tops_in, winners_among, won_tops, fetch_of, fetches_of, requests_of, counts_in, failed_in, hit_in}
use Rattle.search_phase.specs.Searching.{Searching, IsSearching, AllHonest, IsHonest, IsHonestTop, plain_counts, plain_reply, reply_of, next_step, has_ended}
use Rattle.search_phase.proofs.Lookups.{Paired, paired_by_place, Beside, beside_by_place, slice_get-drop}
use Rattle.search_phase.proofs.Requests.{HasEnded, ended, request_of_query, request_of_fetch, length-requests_after, list_all-slice_get, slice_get-map}
pub use Rattle.search_phase.proofs.QueryTops.{answer_of_top}
use Rattle.search_phase.proofs.QueryTops.{top_at}
use Rattle.search_phase.proofs.PlainCounts.{version_of, IsPlainTop, IsQueryAnswer, counts_are_plain, versions_are, honest_tops, winners_are_plain}
use Rattle.search_phase.proofs.PlainHits.{IsFetchAnswer, IsFetchReply, hits_are_plain}

pub is_given : (o : Option Reply) → is_some o ≡ true → (reply : Reply) × (o ≡ Some reply)
is_given None e = absurd cc
is_given (Some reply) e = (reply, refl)

-- the queries of a search are answered by honest tops
module _ (writes : ℕ → List Doc) (s : Searching) (sound : IsSearching s) (honest : AllHonest writes s) where
  pub query_answers : Beside (IsQueryAnswer s.reading writes) s.reading.shards s.asked
  query_answers = beside_by_place (IsQueryAnswer s.reading writes) s.reading.shards s.asked at_place
    where
      says : (i : ℕ) (at : ShardRead) (a : Asked) → slice_get s.reading.shards i ≡ Some at → slice_get s.asked i ≡ Some a → (top : ShardTop) → option_and_then top_of a.answer ≡ Some top
          → IsHonestTop (query_of s.reading at) (writes (shard_read at)) top
      says i at a read here top e = honest i a (asks.Query (query_of s.reading at)) (Top top) here (request_of_query s.reading s.asked i at read) (answer_of_top a.answer top e)

      at_place : (i : ℕ) (at : ShardRead) (a : Asked) → slice_get s.reading.shards i ≡ Some at → slice_get s.asked i ≡ Some a → IsQueryAnswer s.reading writes at a
      at_place i at a read here top e = record {
        honest = (says i at a read here top e).says;
        within = (says i at a read here top e).within;
        version = (top_at s sound i at a read here top e).version;
      }

module _ (writes : ℕ → List Doc) (s : Searching) (sound : IsSearching s) (end : HasEnded s) (honest : AllHonest writes s) where
  abbrev tops : List ShardTop
  tops = tops_in (length s.reading.shards) s.asked

  abbrev won : List HitKey
  won = winners_among s.reading.ask.body tops

  answers : Beside (IsQueryAnswer s.reading writes) s.reading.shards s.asked
  answers = query_answers writes s sound honest

  fetch_reply : (top : ShardTop) (reply : Reply) → can_have (length s.reading.shards) (asks.Fetch (fetch_of s.reading.ask won top)) reply ≡ true → IsHonest writes (asks.Fetch (fetch_of s.reading.ask won top)) reply
      → IsFetchReply s.reading.ask writes won top reply
  fetch_reply top (Hits hits) p h = h.says
  fetch_reply top (Cancelled task cancel counts) p h = tt
  fetch_reply top (Rejected node) p h = tt
  fetch_reply top (Search reply) p h = absurd cc
  fetch_reply top (AllFailed failed) p h = absurd cc
  fetch_reply top (Wrote counts) p h = absurd cc
  fetch_reply top (Top other) p h = absurd cc

  fetch_answers : Paired (IsFetchAnswer s.reading.ask writes won) (won_tops s.reading.ask.body tops) (drop (length s.reading.shards) s.asked)
  fetch_answers = paired_by_place (IsFetchAnswer s.reading.ask writes won) (won_tops s.reading.ask.body tops) (drop (length s.reading.shards) s.asked) as_long at_place
    where
      as_long : length (won_tops s.reading.ask.body tops) ≡ length (drop (length s.reading.shards) s.asked)
      as_long =
          let all : length (requests_of s.reading s.asked) ≡ length s.reading.shards + length (fetches_of s.reading.ask tops) = length-requests_after s.reading s.asked end.queried in
          let each : length (fetches_of s.reading.ask tops) ≡ length (won_tops s.reading.ask.body tops) = length-map (won_tops s.reading.ask.body tops) (fetch_of s.reading.ask won) in
          let rest : length (drop (length s.reading.shards) s.asked) ≡ length s.asked - length s.reading.shards = length-drop (length s.reading.shards) s.asked in
          let least : length (requests_of s.reading s.asked) ≤ length s.asked = end.asked_all in
          let most : length s.asked ≤ length (requests_of s.reading s.asked) = sound.in_order in
          omega arith

      at_place : (i : ℕ) (top : ShardTop) (a : Asked) → slice_get (won_tops s.reading.ask.body tops) i ≡ Some top → slice_get (drop (length s.reading.shards) s.asked) i ≡ Some a → IsFetchAnswer s.reading.ask writes won top a
      at_place i top a t_at a_at =
          let there : slice_get s.asked (i + length s.reading.shards) ≡ Some a = sym (slice_get-drop (length s.reading.shards) i s.asked) ∙ a_at in
          let request : slice_get (requests_of s.reading s.asked) (i + length s.reading.shards) ≡ Some (asks.Fetch (fetch_of s.reading.ask won top)) =
          request_of_fetch s.reading s.asked i (fetch_of s.reading.ask won top) end.queried (slice_get-map (fetch_of s.reading.ask won) i (won_tops s.reading.ask.body tops) top t_at) in
          let given : (reply : Reply) × (a.answer ≡ Some reply) = is_given a.answer (list_all-slice_get (λ (a : Asked). is_some a.answer) s.asked (i + length s.reading.shards) a end.answered there) in (
            given.0,
            given.1,
            fetch_reply top given.0
                (sound.possible (i + length s.reading.shards) a (asks.Fetch (fetch_of s.reading.ask won top)) given.0 there request given.1)
                (honest (i + length s.reading.shards) a (asks.Fetch (fetch_of s.reading.ask won top)) given.0 there request given.1),
          )

  plain_at_end : reply_of s ≡ plain_reply writes s
  plain_at_end =
      let r : Reading = s.reading in
      let all_plain : AllByRecursion (IsPlainTop r writes) tops = honest_tops r writes r.shards s.asked answers in
      let failed : List FailedShard = failed_in r s.asked in
      let versions : List ShardVersion = map read_at (plain_counts writes s) in
      let same_counts : counts_in r s.asked ≡ plain_counts writes s = counts_are_plain r writes r.shards s.asked answers in
      let same_versions : map version_of tops ≡ versions = sym (versions_are r writes r.shards s.asked answers) in
      let same_won : won ≡ winners r.ask.body (filter (is_after r.after) (found_keys r.ask writes versions)) =
      winners_are_plain r writes tops all_plain ∙ ap (λ (vs : List ShardVersion). winners r.ask.body (filter (is_after r.after) (found_keys r.ask writes vs))) same_versions in
      let same_hits : filter_map (hit_in r.ask (length r.shards) s.asked) won
      ≡ filter_map (hit_of r.ask.index writes versions) (filter (λ key. not (has_failed failed key.shard)) (winners r.ask.body (filter (is_after r.after) (found_keys r.ask writes versions)))) =
      hits_are_plain r writes s.asked sound.reading.apart answers fetch_answers
      ∙ (λ i. filter_map (hit_of r.ask.index writes (same_versions i)) (filter (λ key. not (has_failed failed key.shard)) (same_won i))) in
      λ i. cond (length failed == length r.shards) (AllFailed failed) (Search (record {
        context = r.context;
        shards = same_counts i;
        failed = failed;
        total = sum_by (λ (n : ShardCount). n.count) (same_counts i);
        hits = same_hits i;
        last = last_or None (same_won i);
      }))

pub honest_search_is_plain : (writes : ℕ → List Doc) (s : Searching) → IsSearching s → has_ended (next_step s) ≡ true → AllHonest writes s → reply_of s ≡ plain_reply writes s
honest_search_is_plain writes s sound end honest = plain_at_end writes s sound (ended s end) honest
