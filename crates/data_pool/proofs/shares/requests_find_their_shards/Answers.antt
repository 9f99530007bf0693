-- A request of a shard goes to the worker of this shard.
use Rattle.std.proofs.Common.{◌<◌, IfSome, Contains}
use Rattle.task_events.specs.Kinds.{kind_of}
use Rattle.task_events.specs.declared.request.Request.{Request}
use Rattle.task_events.specs.declared.request.Request.TheVariants.{Search, Query, Fetch, Scroll, Reindex, Slice, Bulk, BulkShard}
use Rattle.task_ids.specs.Placing.{node_of}
use Rattle.data_pool.specs.Workers.{worker_of, shards_of}
use Rattle.data_pool.specs.declared.pool.Pool.{Pool}
use Rattle.data_pool.proofs.Holding.{is_held_there}
use Rattle.data_pool.proofs.shares.requests_find_their_shards.Goals as goal

found : (pool : Pool) (request : Request) → IfSome (kind_of request).place (λ place. place.1 < pool.shards → Contains (shards_of pool (node_of place.1 pool.nodes) (worker_of pool request)) place.1)
found pool (Search ask) = tt
found pool (Query ask) = is_held_there pool ask.shard
found pool (Fetch ask) = is_held_there pool ask.shard
found pool (Scroll ask) = tt
found pool (Reindex ask) = tt
found pool (Slice ask) = tt
found pool (Bulk ask) = tt
found pool (BulkShard ask) = is_held_there pool ask.shard

pub returns : goal.returns
returns c = found
