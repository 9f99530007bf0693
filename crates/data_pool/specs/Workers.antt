-- Which data worker of a node does what.
use Rattle.std.specs.Prelude.{ℕ, ◌+◌, ◌/◌, ◌%◌, ◌==◌, ◌&&◌, nat_lt, if◌then◌else◌, Bool, List, filter}
use Rattle.std.specs.List.{range_with_len}
use Rattle.std.specs.Option.{option_map_or}
use Rattle.task_ids.specs.Placing.{node_of}
use Rattle.task_events.specs.Kinds.{kind_of}
use Rattle.task_events.specs.declared.request.Request.{Request}
use Rattle.data_pool.specs.declared.pool.Pool.{Pool}

-- The worker of a shard, on the shard's node: the shards of a node go to its workers in turn.
abbrev pub worker_of_shard : Pool → ℕ → ℕ
worker_of_shard pool shard = shard / pool.nodes % pool.workers

-- the worker of the task that a request asks for, on its node: that of its shard, or 0 where it works on none
abbrev pub worker_of : Pool → Request → ℕ
worker_of pool request = option_map_or (λ place. worker_of_shard pool place.1) (kind_of request).place 0

-- a shard lies on this node, and this is its worker there
abbrev pub is_held : Pool → ℕ → ℕ → ℕ → Bool
is_held pool node worker shard = (node_of shard pool.nodes == node) && (worker_of_shard pool shard == worker)

-- the shards of a worker of a node, ascending
abbrev pub shards_of : Pool → ℕ → ℕ → List ℕ
shards_of pool node worker = filter (is_held pool node worker) (range_with_len 0 pool.shards)

-- the share of a worker where each has so many, and the workers below a number have one more
abbrev pub share_of : ℕ → ℕ → ℕ → ℕ
share_of each more worker = each + (if nat_lt worker more then 1 else 0)

-- how many of a node's slots a worker has, where so many workers share them out as evenly as they can be
abbrev pub quota_of : ℕ → ℕ → ℕ → ℕ
quota_of slots count worker = share_of (slots / count) (slots % count) worker
