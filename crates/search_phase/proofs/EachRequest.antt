-- What holds of each thing that a search asks for, and of each top that it is told.
use Rattle.std.specs.Prelude.{◌≡◌, ℕ, zero, suc, List, [], ◌∷◌, Bool, true, false, cond, Option, Some, None, filter, map, length, option_and_then, slice_get, refl}
use Rattle.std.specs.List.{AllByRecursion, cons_option}
use Rattle.task_ids.proofs.Each.{all_filtered, all_joined, all_mapped}
use Rattle.task_events.specs.Readings.{Reading}
use Rattle.task_events.specs.Searches.{fetch_of, fetches_of, has_queried, has_winner, query_of, requests_of, top_of, tops_in, winners_among, won_tops}
use Rattle.task_events.specs.declared.reading.ShardRead.{ShardRead}
use Rattle.task_events.specs.declared.reply.ShardTop.{ShardTop}
use Rattle.task_events.specs.declared.request.FetchAsk.{FetchAsk}
use Rattle.task_events.specs.declared.request.HitKey.{HitKey}
use Rattle.task_events.specs.declared.request.Request.{Request}
use Rattle.task_events.specs.declared.request.Request.TheVariants.{Query, Fetch}
use Rattle.task_events.specs.declared.step.Asked.{Asked}

-- ---- requests

module _ (P : Request → Type 0) (r : Reading) (asked : List Asked) where
  abbrev tops : List ShardTop
  tops = tops_in (length r.shards) asked

  abbrev won : List HitKey
  won = winners_among r.ask.body tops

  abbrev IsFetched : ShardTop → Type 0
  IsFetched top = P (Fetch (fetch_of r.ask won top))

  -- P of the query of each shard, and of the fetch of each top
  pub each_request : AllByRecursion (λ at. P (Query (query_of r at))) r.shards → AllByRecursion IsFetched tops → AllByRecursion P (requests_of r asked)
  each_request queries fetches = all_joined P _ _ (all_mapped P (λ at. Query (query_of r at)) r.shards queries) (later (has_queried (length r.shards) asked))
    where
      later : (b : Bool) → AllByRecursion P (cond b (map Fetch (fetches_of r.ask tops)) [])
      later true = all_mapped P Fetch (fetches_of r.ask tops) (all_mapped (λ (f : FetchAsk). P (Fetch f)) (fetch_of r.ask won) (won_tops r.ask.body tops) (all_filtered IsFetched (has_winner won) tops fetches))
      later false = tt

-- ---- tops

-- P of each top that was told of a shard
pub each_top : (P : ShardTop → Type 0) (reads : List ShardRead) (asked : List Asked)
    → ((i : ℕ) (at : ShardRead) (a : Asked) (top : ShardTop) → slice_get reads i ≡ Some at → slice_get asked i ≡ Some a → option_and_then top_of a.answer ≡ Some top → P top)
    → AllByRecursion P (tops_in (length reads) asked)
each_top P [] asked each = tt
each_top P (at ∷ reads) [] each = tt
each_top P (at ∷ reads) (a ∷ asked) each = by_top (option_and_then top_of a.answer) refl (each_top P reads asked (λ i at a top here there. each (suc i) at a top here there))
  where
    by_top : (o : Option ShardTop) → option_and_then top_of a.answer ≡ o → AllByRecursion P (tops_in (length reads) asked) → AllByRecursion P (cons_option o (tops_in (length reads) asked))
    by_top None e rest = rest
    by_top (Some top) e rest = (each zero at a top refl refl e, rest)
