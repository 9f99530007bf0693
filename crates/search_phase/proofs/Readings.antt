-- What holds of what a search looks through, and a page of one.
use Rattle.std.specs.Prelude.{◌≡◌, ℕ, zero, suc, ◌+◌, ◌<◌, ◌≤◌, ◌^◌, List, [], ◌∷◌, true, nat_lt, map, length, refl}
use Rattle.std.proofs.Common.{◌∙◌, arith}
use Rattle.std.proofs.lemmas.Bool.{lt-ltb, ltb-true}
use Rattle.std.proofs.lemmas.List.{length-map}
use Rattle.std.proofs.lemmas.List.FromFn.{length-map-range_with_len}
use Rattle.std.specs.List.{list_all, range_with_len}
use Rattle.task_ids.specs.declared.task_id.TaskId.{TaskId}
use Rattle.task_events.specs.declared.context.Context.{Context}
use Rattle.task_events.specs.declared.reading.ShardRead.{ShardRead}
use Rattle.task_events.specs.declared.reading.ShardRead.TheVariants.{Newest, Kept}
use Rattle.task_events.specs.declared.reply.ShardCount.{ShardCount}
use Rattle.task_events.specs.declared.request.SearchAsk.{SearchAsk}
use Rattle.task_events.specs.Counts.{Ascend, AreCounts}
use Rattle.task_events.specs.Readings.{search_reading, page_reading, shard_read}
use Rattle.search_phase.specs.Searching.{AreApart, IsReading, is_low}
use Rattle.search_phase.proofs.Lookups.{list_all-weaker}

-- ---- all shards of an index

all_above : (s first n : ℕ) → s < first → list_all (λ at. nat_lt s (shard_read at)) (map Newest (range_with_len first n)) ≡ true
all_above s first zero h = refl
all_above s first (suc n) h = rw (lt-ltb s first h) (all_above s (first + 1) n (omega arith))

newest_apart : (first n : ℕ) → AreApart (map Newest (range_with_len first n))
newest_apart first zero = tt
newest_apart first (suc n) = (all_above first (first + 1) n (omega arith), newest_apart (first + 1) n)

newest_low : (first n : ℕ) → list_all is_low (map Newest (range_with_len first n)) ≡ true
newest_low first zero = refl
newest_low first (suc n) = newest_low (first + 1) n

pub search_is_reading : (task : TaskId) (ask : SearchAsk) (shards : ℕ) → shards < 4294967296 → IsReading (search_reading task ask shards)
search_is_reading task ask shards few =
    let long : length (map Newest (range_with_len 0 shards)) ≡ shards = length-map-range_with_len Newest 0 shards in
    record { few = omega arith; apart = newest_apart 0 shards; low = newest_low 0 shards }

-- ---- the shards of a context

later_ascend : (n : ShardCount) (later : List ShardCount) → Ascend (n ∷ later) → Ascend later
later_ascend n later h = λ k d within. let e : suc k + 1 ≡ suc (k + 1) = omega arith in rw e at (h (suc k) d (omega arith))

kept_apart : (counts : List ShardCount) → Ascend counts → AreApart (map Kept counts)
kept_apart [] h = tt
kept_apart (n ∷ []) h = (refl, tt)
kept_apart (n ∷ next ∷ later) h =
    let below : n.shard < next.shard = h 0 n (omega arith) in
    let rest : AreApart (map Kept (next ∷ later)) = kept_apart (next ∷ later) (later_ascend n (next ∷ later) h) in
    let above : (at : ShardRead) → nat_lt next.shard (shard_read at) ≡ true → nat_lt n.shard (shard_read at) ≡ true = λ at e. lt-ltb n.shard (shard_read at) (omega (arith, ltb-true next.shard (shard_read at) e)) in
    let all : list_all (λ at. nat_lt n.shard (shard_read at)) (map Kept later) ≡ true = list_all-weaker (λ at. nat_lt next.shard (shard_read at)) (λ at. nat_lt n.shard (shard_read at)) (map Kept later) above rest.0 in
    (rw (lt-ltb n.shard next.shard below) all, rest)

kept_low : (counts : List ShardCount) → list_all is_low (map Kept counts) ≡ list_all (λ n. nat_lt n.count (2 ^ 32)) counts
kept_low [] = refl
kept_low (n ∷ later) = rw (kept_low later) refl

pub page_is_reading : (c : Context) → AreCounts c.shards → IsReading (page_reading c)
page_is_reading c h =
    let long : length (map Kept c.shards) ≡ length c.shards = length-map c.shards Kept in
    let few : length c.shards ≤ 15 = h.few in
    record { few = omega arith; apart = kept_apart c.shards h.ascend; low = kept_low c.shards ∙ h.low }
