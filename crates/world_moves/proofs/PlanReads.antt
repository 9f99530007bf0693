-- A search or a page asks for no version below a bound, where its shards are read at none and its tops are of none.
use Rattle.std.proofs.Common.{◌≡◌, ◌≤◌, ◌<◌, ℕ, zero, suc, Bool, true, false, cond, List, [], ◌∷◌, length, map, take, Option, Some, None, refl, arith}
use Rattle.std.specs.Prelude.{slice_get, filter, filter_map, option_map, option_and_then, zip}
use Rattle.std.specs.List.{AllByRecursion, cons_option}
use Rattle.task_events.specs.declared.reading.ShardRead.{ShardRead}
use Rattle.task_events.specs.declared.reading.ShardRead.TheVariants.{Newest, Kept}
use Rattle.task_events.specs.declared.reply.ShardCount.{ShardCount}
use Rattle.task_events.specs.declared.reply.ShardTop.{ShardTop}
use Rattle.task_events.specs.declared.request.HitKey.{HitKey}
use Rattle.task_events.specs.declared.request.Request.{Request}
use Rattle.task_events.specs.declared.request.Request.TheVariants as asks
use Rattle.task_events.specs.declared.step.Asked.{Asked}
use Rattle.task_events.specs.Readings.{Reading, shard_read, version_read}
use Rattle.task_events.specs.Searches.{query_of, top_of, tops_in, winners_among, has_winner, fetch_of, fetches_of, has_queried, requests_of, counted, counts_in}
use Rattle.search_phase.proofs.Sorting.{by_test}
use Rattle.world_moves.specs.Reads.{Oldest}
use Rattle.task_ids.proofs.Each.{all_here, all_joined, all_mapped}

-- a request of a shard reads no version of it below this
abbrev pub RequestReadsFrom : Oldest → Request → Type 0
RequestReadsFrom oldest (asks.Query ask) = (v : ℕ) → ask.version ≡ Some v → oldest ask.index ask.shard ≤ v
RequestReadsFrom oldest (asks.Fetch ask) = oldest ask.index ask.shard ≤ ask.version
RequestReadsFrom oldest _ = Unit {0}

-- the first of a list, by place
pub take_at : {X : Type 0} (n : ℕ) (xs : List X) (i : ℕ) → i < n → slice_get (take n xs) i ≡ slice_get xs i
take_at zero xs i l = absurd (omega arith)
take_at (suc n) [] i l = refl
take_at (suc n) (x ∷ xs) zero l = refl
take_at (suc n) (x ∷ xs) (suc i) l = take_at n xs i (omega arith)

module _ (oldest : Oldest) (r : Reading) where
  abbrev pub IsReadFrom : ShardRead → Type 0
  IsReadFrom at = (v : ℕ) → version_read at ≡ Some v → oldest r.ask.index (shard_read at) ≤ v

  abbrev pub IsTopFrom : ShardTop → Type 0
  IsTopFrom top = oldest r.ask.index top.shard ≤ top.version

  -- an answer at the place of a shard is a top of no lower version, where it is a top
  abbrev pub TopsFrom : List ShardRead → List Asked → Type 0
  TopsFrom reads asked = (i : ℕ) (at : ShardRead) (a : Asked) (top : ShardTop) → slice_get reads i ≡ Some at → slice_get asked i ≡ Some a → option_and_then top_of a.answer ≡ Some top → IsTopFrom top

  -- ---- what it asks for

  fetches_from : (won : List HitKey) (tops : List ShardTop) → AllByRecursion IsTopFrom tops → AllByRecursion (RequestReadsFrom oldest) (map asks.Fetch (map (fetch_of r.ask won) (filter (has_winner won) tops)))
  fetches_from won [] all = tt
  fetches_from won (top ∷ tops) all = by_test (has_winner won top) (λ yes. rw yes (all.0, fetches_from won tops all.1)) (λ no. rw no (fetches_from won tops all.1))

  tops_from : (reads : List ShardRead) (asked : List Asked) → TopsFrom reads asked → AllByRecursion IsTopFrom (tops_in (length reads) asked)
  tops_from [] asked each = tt
  tops_from (at ∷ reads) [] each = tt
  tops_from (at ∷ reads) (a ∷ asked) each = by_top (option_and_then top_of a.answer) refl (tops_from reads asked (λ i at a top here there. each (suc i) at a top here there))
    where
      by_top : (o : Option ShardTop) → option_and_then top_of a.answer ≡ o → AllByRecursion IsTopFrom (tops_in (length reads) asked) → AllByRecursion IsTopFrom (cons_option o (tops_in (length reads) asked))
      by_top None e rest = rest
      by_top (Some top) e rest = (each zero at a top refl refl e, rest)

  module _ (asked : List Asked) (reads : AllByRecursion IsReadFrom r.shards) (tops : TopsFrom r.shards asked) where
    later_from : (b : Bool) → AllByRecursion (RequestReadsFrom oldest) (cond b (map asks.Fetch (fetches_of r.ask (tops_in (length r.shards) asked))) [])
    later_from true = fetches_from (winners_among r.ask.body (tops_in (length r.shards) asked)) (tops_in (length r.shards) asked) (tops_from r.shards asked tops)
    later_from false = tt

    pub plan_from : (i : ℕ) (q : Request) → slice_get (requests_of r asked) i ≡ Some q → RequestReadsFrom oldest q
    plan_from i q wants =
        all_here (RequestReadsFrom oldest) (requests_of r asked) i q
        (all_joined (RequestReadsFrom oldest) _ _
        (all_mapped (RequestReadsFrom oldest) (λ at. asks.Query (query_of r at)) r.shards reads)
        (later_from (has_queried (length r.shards) asked))) wants

  -- ---- what it has counted

  abbrev IsCountFrom : ShardCount → Type 0
  IsCountFrom n = oldest r.ask.index n.shard ≤ n.version

  count_from : (at : ShardRead) (top : ShardTop) → IsTopFrom top → IsReadFrom at → IsCountFrom (counted at top)
  count_from (Newest shard) top found read = found
  count_from (Kept kept) top found read = read kept.version refl

  counts_from : (reads : List ShardRead) (asked : List Asked) → AllByRecursion IsReadFrom reads → TopsFrom reads asked
      → AllByRecursion IsCountFrom (filter_map (λ p. option_map (counted p.0) (option_and_then top_of p.1.answer)) (zip reads asked))
  counts_from [] asked read tops = tt
  counts_from (at ∷ reads) [] read tops = tt
  counts_from (at ∷ reads) (a ∷ asked) read tops = by_top (option_and_then top_of a.answer) refl (counts_from reads asked read.1 (λ i at a top here there. tops (suc i) at a top here there))
    where
      later : List ShardCount
      later = filter_map (λ p. option_map (counted p.0) (option_and_then top_of p.1.answer)) (zip reads asked)

      by_top : (o : Option ShardTop) → option_and_then top_of a.answer ≡ o → AllByRecursion IsCountFrom later → AllByRecursion IsCountFrom (cons_option (option_map (counted at) o) later)
      by_top None e rest = rest
      by_top (Some top) e rest = (count_from at top (tops zero at a top refl refl e) read.0, rest)

  pub kept_from : (asked : List Asked) → AllByRecursion IsReadFrom r.shards → TopsFrom r.shards asked → (place : ℕ) (n : ShardCount) → slice_get (counts_in r asked) place ≡ Some n → oldest r.ask.index n.shard ≤ n.version
  kept_from asked read tops place n at = all_here IsCountFrom (counts_in r asked) place n (counts_from r.shards asked read tops) at
