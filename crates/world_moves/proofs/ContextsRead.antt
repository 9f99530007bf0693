-- What a search or a page has read of its shards was written, so a context can keep it.
use Rattle.std.proofs.Common.{◌≡◌, ◌≤◌, ℕ, zero, suc, List, [], ◌∷◌, length, Option, Some, None, refl, arith}
use Rattle.std.specs.Prelude.{option_map, option_and_then, filter_map, zip, slice_get}
use Rattle.std.specs.List.{AllByRecursion}
use Rattle.task_ids.specs.declared.cluster.Cluster.{Cluster}
use Rattle.task_ids.specs.declared.corpus.Corpus.{Corpus}
use Rattle.task_events.specs.declared.context.Context.{Context}
use Rattle.task_events.specs.declared.reading.ShardRead.{ShardRead}
use Rattle.task_events.specs.declared.reading.ShardRead.TheVariants.{Newest, Kept}
use Rattle.task_events.specs.declared.reply.ShardCount.{ShardCount}
use Rattle.task_events.specs.declared.reply.ShardTop.{ShardTop}
use Rattle.task_events.specs.declared.request.Request.{Request}
use Rattle.task_events.specs.declared.step.Asked.{Asked}
use Rattle.task_events.specs.Readings.{Reading, shard_read, version_read}
use Rattle.task_events.specs.Searches.{top_of, counted, counts_in}
use Rattle.world_moves.specs.Good.{IsContextWithin, IsShardWithin}
use Rattle.world_moves.specs.SearchRuns.{SearchesFor}
use Rattle.task_ids.proofs.Each.{all_here}
use Rattle.world_moves.proofs.SearchAsks.{IsTopWithin, top_within}

module _ (cluster : Cluster) (corpus : Corpus) (r : Reading) where
  -- a count is of a shard at a version that was written
  abbrev IsCountWithin : ShardCount → Type 0
  IsCountWithin n = IsShardWithin cluster corpus r.ask.index n.shard (Some n.version)

  count_within : (at : ShardRead) (top : ShardTop) → IsTopWithin cluster corpus r top → IsShardWithin cluster corpus r.ask.index (shard_read at) (version_read at) → IsCountWithin (counted at top)
  count_within (Newest shard) top found read = found
  count_within (Kept kept) top found read = read

  counts_of : List ShardRead → List Asked → List ShardCount
  counts_of reads asked = filter_map (λ p. option_map (counted p.0) (option_and_then top_of p.1.answer)) (zip reads asked)

  counts_within : (reads : List ShardRead) (asked : List Asked)
      → ((i : ℕ) (at : ShardRead) (a : Asked) (top : ShardTop) → slice_get reads i ≡ Some at → slice_get asked i ≡ Some a → option_and_then top_of a.answer ≡ Some top → IsTopWithin cluster corpus r top)
      → ((i : ℕ) (at : ShardRead) → slice_get reads i ≡ Some at → IsShardWithin cluster corpus r.ask.index (shard_read at) (version_read at))
      → AllByRecursion IsCountWithin (counts_of reads asked) × (length (counts_of reads asked) ≤ length reads)
  unfolding counts_of
  counts_within [] asked tops reads_within = (tt, omega arith)
  counts_within (at ∷ reads) [] tops reads_within = (tt, omega arith)
  counts_within (at ∷ reads) (a ∷ asked) tops reads_within =
      by_top (option_and_then top_of a.answer) refl (counts_within reads asked (λ i at a top here there. tops (suc i) at a top here there) (λ i at here. reads_within (suc i) at here))
    where
      by_top : (o : Option ShardTop) → option_and_then top_of a.answer ≡ o → AllByRecursion IsCountWithin (counts_of reads asked) × (length (counts_of reads asked) ≤ length reads)
          → AllByRecursion IsCountWithin (counts_of (at ∷ reads) (a ∷ asked)) × (length (counts_of (at ∷ reads) (a ∷ asked)) ≤ length (at ∷ reads))
      by_top None e rest = let few = rest.1 in rw e (rest.0, omega arith)
      by_top (Some top) e rest = let few = rest.1 in rw e ((count_within at top (tops zero at a top refl refl e) (reads_within zero at refl), rest.0), omega arith)

  module _ (asked : List Asked) (requests : List Request) (awaited : List (Option ℕ)) (x : SearchesFor cluster corpus r asked requests awaited (record { reading = r; asked = asked })) where
    -- a context that keeps what was counted keeps versions that were written
    pub kept_within : (c : Context) → c.shards ≡ counts_in r asked → c.ask ≡ r.ask → IsContextWithin cluster corpus c
    unfolding counts_of
    kept_within c shards ask =
        let all = counts_within r.shards asked (top_within cluster corpus r asked requests awaited x) x.within in
        let most = x.few in
        let few = all.1 in
        record {
          few = rw shards (omega arith);
          shown = rw ask x.shown;
          shards = λ place n at. rw ask (all_here IsCountWithin (counts_in r asked) place n all.0 (rw shards at at));
        }
