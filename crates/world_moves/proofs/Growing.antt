-- What is known of the work of a shard stays where more is written to it.
use Rattle.std.proofs.Common.{◌≡◌, ◌<◌, ◌≤◌, ℕ, zero, suc, true, false, cond, List, ◌++◌, length, Option, Some, None, refl, sym, ap, ◌∙◌, arith, length-append}
use Rattle.std.specs.Prelude.{IfSome, IsSome}
use Rattle.task_ids.specs.declared.cluster.Cluster.{Cluster}
use Rattle.task_ids.specs.declared.corpus.Corpus.{Corpus}
use Rattle.task_ids.specs.declared.doc.Doc.{Doc}
use Rattle.task_events.specs.declared.context.Context.{Context}
use Rattle.task_events.specs.declared.reply.Hit.{Hit}
use Rattle.task_events.specs.declared.reply.ShardTop.{ShardTop}
use Rattle.task_events.specs.declared.request.Request.{Request}
use Rattle.task_events.specs.declared.request.Request.TheVariants as asks
use Rattle.search_phase.specs.Fetches.{FetchState, has_fetched}
use Rattle.search_phase.specs.Queries.{QueryState, IsQueried}
use Rattle.search_phase.proofs.Growing.{IsQueried-grow, IsFetched-grow, rows_for-grow, shard_top-grow, fetched-grow}
use Rattle.task_events.specs.Looking.{is_done}
use Rattle.task_events.specs.QueryTask.{rows_for}
use Rattle.task_work.specs.declared.work.Work.TheVariants as works
use Rattle.task_work.specs.Works.{IsWorkOn, found_top}
use Rattle.world_moves.specs.Good.{IsWithin, IsContextWithin, IsShardWithin, Grows, written}

-- ---- a shard

pub few_grown : (n : ℕ) (writes longer more : List Doc) → longer ≡ writes ++ more → n ≤ length writes → n ≤ length longer
few_grown n writes longer more is low = rw is (omega (arith, low, length-append writes more))

module _ (cluster : Cluster) (corpus later : Corpus) (grows : Grows cluster corpus later) where
  -- a version that was written still is
  pub version_grown : (index : List ℕ) (shard : ℕ) (version : Option ℕ) → IsShardWithin cluster corpus index shard version → IsShardWithin cluster later index shard version
  version_grown index shard version within = (within.0, λ v e. let more = grows index shard in few_grown v (written cluster corpus index shard) (written cluster later index shard) more.0 more.1 (within.1 v e))

  pub request_grown : (r : Request) → IsWithin cluster corpus r → IsWithin cluster later r
  request_grown (asks.Query ask) within = version_grown ask.index ask.shard ask.version within
  request_grown (asks.Fetch ask) within = version_grown ask.index ask.shard (Some ask.version) within
  request_grown (asks.Search ask) within = within
  request_grown (asks.Reindex ask) within = tt
  request_grown (asks.Slice ask) within = tt
  request_grown (asks.Bulk ask) within = within
  request_grown (asks.BulkShard ask) within = within
  request_grown (asks.Scroll ask) within = tt

  pub context_grown : (c : Context) → IsContextWithin cluster corpus c → IsContextWithin cluster later c
  context_grown c within = record { few = within.few; shown = within.shown; shards = λ place n at. version_grown c.ask.index n.shard (Some n.version) (within.shards place n at) }
