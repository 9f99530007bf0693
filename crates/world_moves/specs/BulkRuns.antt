-- What the past says of the work of a bulk, and of its part in a shard.
use Rattle.std.specs.Prelude.{◌≡◌, ℕ, ◌≤◌, List, [], length, Option}
use Rattle.task_ids.specs.declared.cluster.Cluster.{Cluster}
use Rattle.task_events.specs.declared.request.BulkAsk.{BulkAsk}
use Rattle.task_events.specs.declared.request.BulkShardAsk.{BulkShardAsk}
use Rattle.task_events.specs.declared.request.Request.{Request}
use Rattle.task_events.specs.declared.step.Asked.{Asked}
use Rattle.task_events.specs.Kind.{Progress}
use Rattle.reindex.specs.BulkRuns.{IsBulkAt}
use Rattle.reindex.specs.Bulks.{Bulking, bulk_takes}
use Rattle.reindex.specs.Writing.{Writing, IsWritingAt}
use Rattle.task_work.specs.declared.work.Work.{Work}
use Rattle.task_work.specs.declared.work.Work.TheVariants as works
use Rattle.world_moves.specs.AsksKnown.{KnowsAsks}
use Rattle.world_moves.specs.Good.{IsPartWithin}

-- A bulk has come as far as its asks and their answers. It has at most as many documents as a page.
pub record BulksFor (shards : ℕ) (ask : BulkAsk) (asked : List Asked) (requests : List Request) (awaited : List (Option ℕ)) (b : Bulking) : Type 0 where
  pub here : IsBulkAt ask shards asked b
  pub few : length ask.docs ≤ 10000
  pub knows : KnowsAsks shards (bulk_takes b) asked requests awaited

-- Its part in a shard has come as far as the turns that its task has taken.
pub record PartsFor (cluster : Cluster) (ask : BulkShardAsk) (p : Progress) (awaited : List (Option ℕ)) (w : Writing) : Type 0 where
  pub here : IsWritingAt ask p.turns p.created p.updated w
  pub asks_nothing : awaited ≡ []
  pub within : IsPartWithin cluster ask

abbrev pub RunsBulk : ℕ → List Asked → List Request → List (Option ℕ) → BulkAsk → Work → Type 0
RunsBulk shards asked requests awaited ask (works.Bulk b) = BulksFor shards ask asked requests awaited b
RunsBulk shards asked requests awaited ask _ = ⊥

abbrev pub RunsPart : Cluster → Progress → List (Option ℕ) → BulkShardAsk → Work → Type 0
RunsPart cluster p awaited ask (works.BulkShard w) = PartsFor cluster ask p awaited w
RunsPart cluster p awaited ask _ = ⊥
