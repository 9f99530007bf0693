-- What a core keeps of its tasks and shards, and that it belongs to its seat at the board.
use Rattle.std.specs.Prelude.{◌≡◌, ℕ, Option, IfSome, is_some}
use Rattle.task_ids.specs.declared.cluster.Cluster.{Cluster}
use Rattle.node_link.specs.Lawful.{IsPlace, IsWorker, IsCancelOfRun, is_page}
use Rattle.data_pool.specs.declared.pool.Pool.{Pool}
use Rattle.node_parts.specs.Running.{next_number}
use Rattle.task_work.specs.Works.{place_of}
use Rattle.held_shards.specs.declared.HeldShards.{HeldShards}
use Rattle.live_tasks.specs.declared.entry.Entry.{Entry}
use Rattle.live_tasks.specs.declared.live.LiveTasks.{LiveTasks}
use Rattle.live_tasks.specs.Live.{SameCore}
use Rattle.live_tasks.specs.Ties.{Together, IsNewCore}
use Rattle.data_parts.specs.Steps.{HasLawfulReplies, AsksBelow, HasCome}
use Rattle.entry_facts.specs.Entries.{EachLive, writes_for}
use Rattle.data_core.specs.declared.state.DataCore.{DataCore}

-- A live task whose letters are lawful: its place, its mark, its page and the failures that its answers tell. It asks with rising numbers, and has come so far by turns over its shard.
pub record IsGoodEntry (allowed : ℕ → Type 0) (held : HeldShards) (e : Entry) : Type 0 where
  pub place : IsPlace e.place
  pub mark : IfSome e.running.track.closed (IsCancelOfRun allowed)
  pub page : is_some e.page ≡ is_page e.request
  pub replies : HasLawfulReplies allowed e.running.work
  pub asks : AsksBelow (next_number e.running) e.running.work
  pub come : HasCome e.running.work (writes_for held (place_of e.running.work))

-- so is each live task
abbrev pub AreGood : (ℕ → Type 0) → HeldShards → LiveTasks → Type 0
AreGood allowed held live = EachLive (IsGoodEntry allowed held) live

-- A core keeps this of its tasks, and belongs to a seat of its node's board.
pub record IsSound (allowed : ℕ → Type 0) (node : ℕ) (has : ℕ → ℕ → Type 0) (drawn : Option ℕ) (clear : ℕ → Type 0) (core : DataCore) : Type 0 where
  pub together : Together node has drawn clear core.live
  pub own : core.node ≡ node
  pub worker : IsWorker core.worker
  pub good : AreGood allowed core.shards core.live

-- a core of this node's worker with no live task: it belongs to each fresh seat of the node's board
pub record IsNewDataCore (node : ℕ) (core : DataCore) : Type 0 where
  pub live : IsNewCore node core.live
  pub own : core.node ≡ node
  pub worker : IsWorker core.worker

-- the pool of a cluster whose nodes have so many data workers each
pub record IsPoolOf (cluster : Cluster) (count : ℕ) (pool : Pool) : Type 0 where
  pub nodes : pool.nodes ≡ cluster.nodes
  pub shards : pool.shards ≡ cluster.shards
  pub workers : pool.workers ≡ count

-- it is the core of the same worker of the same pool, with the same shards
pub record SameSelf (old new : DataCore) : Type 0 where
  pub node : new.node ≡ old.node
  pub worker : new.worker ≡ old.worker
  pub cluster : new.cluster ≡ old.cluster
  pub pool : new.pool ≡ old.pool
  pub numbers : new.shards.numbers ≡ old.shards.numbers
  pub core : SameCore old.live new.live
