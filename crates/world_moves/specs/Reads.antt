-- No version of a shard is read below a bound: so its shard may forget the rows that died before it.
use Rattle.std.specs.Prelude.{◌≡◌, ℕ, ◌≤◌, true, List, length, slice_get, Some}
use Rattle.task_ids.specs.declared.task_id.TaskId.{TaskId}
use Rattle.task_ids.specs.declared.cluster.Cluster.{Cluster}
use Rattle.task_ids.specs.declared.corpus.Corpus.{Corpus}
use Rattle.task_events.specs.declared.context.Context.{Context}
use Rattle.task_events.specs.declared.event.Event.{Event}
use Rattle.task_events.specs.declared.reply.Reply.TheVariants.{Top}
use Rattle.task_events.specs.declared.reply.ShardCount.{ShardCount}
use Rattle.task_events.specs.declared.reply.ShardTop.{ShardTop}
use Rattle.task_events.specs.declared.request.Request.TheVariants.{Query}
use Rattle.task_events.specs.declared.request.ShardAsk.{ShardAsk}
use Rattle.task_events.specs.Asks.{request_of_ask, answer_of}
use Rattle.task_events.specs.Contexts.{context_at, page_of}
use Rattle.task_events.specs.Requests.{request_of}
use Rattle.task_events.specs.Steps.{before_first_turn}
use Rattle.task_events.specs.Tasks.{is_live}
use Rattle.command_roots.specs.Roots.{scripted}
use Rattle.script_lang.specs.declared.command.Script.{Script}
pub use Rattle.task_work.specs.Reads.{WorkReadsFrom}
use Rattle.world_moves.specs.Good.{written, so_far}

-- of each shard of each index a version, below which none is read
abbrev pub Oldest : Type 0
Oldest = List ℕ → ℕ → ℕ

-- a context keeps no version below it
abbrev pub KeepsFrom : Oldest → Context → Type 0
KeepsFrom oldest c = (place : ℕ) (n : ShardCount) → slice_get c.shards place ≡ Some n → oldest c.ask.index n.shard ≤ n.version

-- No live task reads a version below it, and no context keeps one.
pub record ReadsFrom (oldest : Oldest) (cluster : Cluster) (corpus : Corpus) (script : Script) (h : List Event) : Type 0 where
  -- it was written
  pub low : (index : List ℕ) (shard : ℕ) → oldest index shard ≤ length (written cluster (so_far corpus script h) index shard)
  -- a query that has taken a turn began it at no lower version
  pub begun : (t : TaskId) (ask : ShardAsk) (past : List Event) → is_live t h ≡ true → request_of (scripted script) t h ≡ Some (Query ask) → before_first_turn t h ≡ Some past
      → oldest ask.index ask.shard ≤ length (written cluster (so_far corpus script past) ask.index ask.shard)
  -- and no query that a live task asked for has told of one
  pub tops : (p : TaskId) (k : ℕ) (ask : ShardAsk) (top : ShardTop) → is_live p h ≡ true → request_of_ask p k h ≡ Some (Query ask) → answer_of p k h ≡ Some (Top top)
      → oldest ask.index ask.shard ≤ top.version
  pub contexts : (id : TaskId) (c : Context) → context_at (scripted script) id h ≡ Some c → KeepsFrom oldest c
  -- nor does a context of which a live task shows a page, as it stood when the task took it
  pub pages : (t : TaskId) (c : Context) → is_live t h ≡ true → page_of (scripted script) t h ≡ Some c → KeepsFrom oldest c
