-- What the tables of contexts say of the past.
use Rattle.std.specs.Prelude.{◌≡◌, ℕ, ◌-◌, true, false, List, length, slice_get, Option, Some, None, unwrap_or, option_map, option_and_then, if◌then◌else◌, IsOk, ⊤}
use Rattle.std.specs.FinMap.{FinMap, get}
use Rattle.task_ids.specs.TaskIdOrder.{task_id_cmp}
use Rattle.task_ids.specs.declared.cluster.Cluster.{Cluster}
use Rattle.task_ids.specs.declared.corpus.Corpus.{Corpus}
use Rattle.task_ids.specs.declared.task_id.TaskId.{TaskId}
use Rattle.script_lang.specs.declared.command.Script.{Script}
use Rattle.task_events.specs.declared.context.Context.{Context}
use Rattle.task_events.specs.declared.event.Event.{Event}
use Rattle.task_events.specs.declared.request.HitKey.{HitKey}
use Rattle.task_events.specs.declared.request.Request.{Request}
use Rattle.task_events.specs.declared.request.Request.TheVariants as asks
use Rattle.task_events.specs.declared.request.ScrollAsk.{ScrollAsk}
use Rattle.task_events.specs.Contexts.{context_at, page_of, given_back}
use Rattle.task_events.specs.Counts.{AreCounts}
use Rattle.task_events.specs.Requests.{request_of}
use Rattle.task_events.specs.Same.{same_task}
use Rattle.task_events.specs.Tasks.{is_live, is_new}
use Rattle.scroll_table.specs.Contexts.{answer_for}
use Rattle.task_work.specs.declared.work.Work.{Work}
use Rattle.node_parts.specs.declared.running.Running.{Running}
use Rattle.command_roots.specs.Roots.{scripted}
use Rattle.world_moves.specs.Good.{IsContextWithin, so_far}
use Rattle.world_moves.specs.Owning.{Owning, OneAtATime}

-- the context of an id in the table of its node, which stands in a list from the first node on
abbrev pub context_in : List (FinMap task_id_cmp Context) → TaskId → Option Context
context_in tables id = option_and_then (λ table. get table id) (slice_get tables (id.node - 1))

-- the context of an id after that of another, perhaps, was given back
abbrev pub after_return : ℕ → Option TaskId → Option HitKey → TaskId → Option Context → Option Context
after_return now None after id c = c
after_return now (Some page) after id c = if same_task page id then option_map (given_back after now) c else c

-- and after a task has opened its own, perhaps
abbrev pub after_opening : Option Context → TaskId → TaskId → Option Context → Option Context
after_opening None task id c = c
after_opening (Some opened) task id c = if same_task task id then Some opened else c

-- a task that has passed, with other work where it is given
abbrev pub passed : Option Work → Running → Running
passed work running = record running { work = unwrap_or work running.work; is_new = false }

-- a request of a page can have its context now
abbrev pub CanTake : ℕ → List (FinMap task_id_cmp Context) → Request → Type 0
CanTake now tables (asks.Scroll ask) = IsOk (answer_for ask.owner now (context_in tables ask.id))
CanTake now tables _ = ⊤

pub record Paging (cluster : Cluster) (corpus : Corpus) (script : Script) (h : List Event) (tables : List (FinMap task_id_cmp Context)) : Type 0 where
  -- there is a table for each node of the cluster
  pub as_many : length tables ≡ cluster.nodes
  -- they have the contexts that stand
  pub stand : (id : TaskId) → context_in tables id ≡ context_at (scripted script) id h
  -- the shards of each can be kept
  pub counts : (id : TaskId) (c : Context) → context_at (scripted script) id h ≡ Some c → AreCounts c.shards
  -- the versions that it keeps were written, and so were those of which a task shows a page
  pub within : (id : TaskId) (c : Context) → context_at (scripted script) id h ≡ Some c → IsContextWithin cluster (so_far corpus script h) c
  pub page_within : (t : TaskId) (c : Context) → page_of (scripted script) t h ≡ Some c → IsContextWithin cluster (so_far corpus script h) c
  -- a live task that shows a page uses its context, once it has passed
  pub used : (t : TaskId) (ask : ScrollAsk) → is_live t h ≡ true → is_new t h ≡ false → request_of (scripted script) t h ≡ Some (asks.Scroll ask)
      → (c : Context) × (context_at (scripted script) ask.id h ≡ Some c) × (c.busy ≡ Some t)
  -- the contexts that belong to tasks stand for them
  pub owns : Owning (scripted script) h
  -- and each page began where no task used its context
  pub alone : OneAtATime (scripted script) h
