-- Which shards a worker holds goes by the numbers of its pool.
use Rattle.std.proofs.Common.{◌≡◌, ℕ, ◌==◌, ◌&&◌, List, filter, sym}
use Rattle.std.specs.Prelude.{◌/◌, ◌%◌}
use Rattle.std.specs.List.{range_with_len}
use Rattle.task_ids.specs.Placing.{node_of}
use Rattle.data_pool.specs.Workers.{shards_of}
use Rattle.data_pool.specs.declared.pool.Pool.{Pool}

-- the shards of a worker, by the numbers of nodes, shards and workers
abbrev pub shards_by : ℕ → ℕ → ℕ → ℕ → ℕ → List ℕ
shards_by nodes shards workers node worker = filter (λ shard. (node_of shard nodes == node) && (shard / nodes % workers == worker)) (range_with_len 0 shards)

pub same_shards : (nodes shards workers node worker : ℕ) (pool : Pool) → pool.nodes ≡ nodes → pool.shards ≡ shards → pool.workers ≡ workers → shards_by nodes shards workers node worker ≡ shards_of pool node worker
same_shards nodes shards workers node worker pool nodes_are shards_are workers_are =
    λ i. shards_by (sym nodes_are i) (sym shards_are i) (sym workers_are i) node worker
