-- Rows that nothing reads any more are forgotten.
use Rattle.std.specs.Prelude.{◌≡◌, ℕ, ◌≤◌, List, Option, Some, filter_map, min, slice_get}
use Rattle.std.specs.FinMap.{FinMap}
use Rattle.std.specs.List.{reduce}
use Rattle.task_ids.specs.TaskIdOrder.{task_id_cmp}
use Rattle.task_ids.specs.declared.task_id.TaskId.{TaskId}
use Rattle.task_events.specs.declared.context.Context.{Context}
use Rattle.task_events.specs.declared.reply.ShardCount.{ShardCount}
use Rattle.scroll_table.specs.Contexts.{oldest_of}
use Rattle.corpus_shards.specs.declared.Shards.{Shards}
use Rattle.corpus_shards.specs.Stored.{HasForgotten, bound_of, shard_in}
use Rattle.world_moves.specs.declared.state.State.{State}
use Rattle.world_moves.specs.Paging.{context_in}

-- the least version that a context of any table keeps of a shard of an index
abbrev pub oldest_in : List ℕ → ℕ → List (FinMap task_id_cmp Context) → Option ℕ
oldest_in index shard tables = reduce min (filter_map (oldest_of index shard) tables)

-- the version below which a shard may forget what is dead: the least that a context of any table keeps of it, or its newest one where none keeps any
abbrev pub bound_in : List (FinMap task_id_cmp Context) → Shards → List ℕ → ℕ → ℕ
bound_in tables shards index shard = bound_of (oldest_in index shard tables) (shard_in shards index shard)

-- each shard has forgotten all rows that are dead there
abbrev pub AllForgotten : List (FinMap task_id_cmp Context) → Shards → Type 0
AllForgotten tables shards = (index : List ℕ) (shard : ℕ) → HasForgotten (bound_in tables shards index shard) (shard_in shards index shard)

-- and no shard has forgotten what a context of the table of its node keeps
abbrev pub NoneLost : List (FinMap task_id_cmp Context) → Shards → Type 0
NoneLost tables shards = (id : TaskId) (c : Context) (place : ℕ) (n : ShardCount) → context_in tables id ≡ Some c → slice_get c.shards place ≡ Some n → (shard_in shards c.ask.index n.shard).oldest ≤ n.version

-- only the shards are others
abbrev pub IsButShards : State → State → Type 0
IsButShards old new = new ≡ record old { shards = new.shards }
