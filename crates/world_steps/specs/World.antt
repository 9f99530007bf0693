-- What contracts see of a world, and what its tables keep.
use Rattle.std.specs.Prelude.{◌≡◌, ℕ, Bool, false, ◌&&◌, ◌||◌, List, Option, Some, None, is_some, map, length, take, drop, ◌≤◌, ◌+◌, ◌-◌, if◌then◌else◌}
use Rattle.std.specs.List.{list_any, range_with_len}
use Rattle.std.specs.BTreeSet.{contains}
use Rattle.std.specs.FinMap.{FinMap, empty}
use Rattle.cancel_core.specs.Cancellations.{Cancellations, no_cancellations}
use Rattle.task_ids.specs.declared.task_id.TaskId.{TaskId}
use Rattle.task_ids.specs.declared.cluster.Cluster.{Cluster}
use Rattle.task_ids.specs.declared.corpus.Corpus.{Corpus}
use Rattle.task_ids.specs.declared.doc.Doc.{Doc}
use Rattle.task_ids.specs.TaskIdOrder.{task_id_cmp}
use Rattle.task_events.specs.declared.context.Context.{Context}
use Rattle.task_events.specs.declared.event.Event.{Event}
use Rattle.task_events.specs.declared.stop.Stop.{Stop}
use Rattle.task_events.specs.Cancels.{last_command}
use Rattle.task_events.specs.Tasks.{is_live}
use Rattle.script_lang.specs.declared.command.Script.{Script}
use Rattle.task_table.specs.Table.{Table, new_table}
use Rattle.task_work.specs.Works as works
use Rattle.task_work.specs.Works.{due_in}
use Rattle.node_parts.specs.declared.running.Running.{Running}
pub use Rattle.scroll_table.specs.Moments.{is_due as has_come}
use Rattle.world_moves.specs.declared.state.State.{State}
use Rattle.world_moves.specs.Facts.{is_about}
use Rattle.world_steps.specs.declared.ready.Ready.{Ready}
use Rattle.world_steps.specs.Alarms.{AreAlarms, alarm_at}
use Rattle.world_steps.specs.Results.{KnowsResults}
use Rattle.world_steps.specs.Draining.{due_of, StartsAgain}
pub use Rattle.world_steps.specs.Runs.{is_ready}
use Rattle.world_steps.specs.Runs.{Passes}
use Rattle.world_steps.specs.Scripts.{CanRun}
use Rattle.world_moves.specs.Ties.{IsTied, Keeps, KeepsLaws}

-- the cluster, the documents and the script, what has happened, and why it came to an early end
pub record WorldView : Type 0 where
  pub cluster : Cluster
  pub corpus : Corpus
  pub script : Script
  pub past : List Event
  pub stopped : Option Stop

abbrev pub view_of : State → Option Stop → WorldView
view_of s stopped = record { cluster = s.cluster; corpus = s.corpus.now; script = s.script.now; past = s.history; stopped = stopped }

abbrev pub ready_in : State → TaskId → Bool
ready_in s t = is_ready s.cluster s.corpus.now s.script.now s.history t

-- the moment for which a task waits
abbrev pub alarm_in : State → TaskId → Option ℕ
alarm_in s t = due_of s.cluster s.corpus.now s.script.now t s.history

-- The tasks in the set are those that do not wait, the alarms are the moments for which tasks wait, and the results are those that stand.
pub record KnowsReady (cluster : Cluster) (corpus : Corpus) (script : Script) (h : List Event) (ready : Ready) : Type 0 where
  pub tasks : (t : TaskId) → contains task_id_cmp ready.tasks t ≡ is_ready cluster corpus script h t
  pub kept : AreAlarms ready.alarms
  pub alarms : (t : TaskId) → alarm_at ready.alarms t ≡ due_of cluster corpus script t h
  pub results : KnowsResults script h ready.results

-- it is known which tasks wait now
abbrev pub HasReady : State → Ready → Type 0
HasReady s ready = KnowsReady s.cluster s.corpus.now s.script.now s.history ready

-- the past of so many events from the first on
abbrev pub past_of : ℕ → List Event → List Event
past_of n h = drop (length h - n) h

-- it is known which tasks waited when there were so many events
abbrev pub HadReady : State → ℕ → Ready → Type 0
HadReady s before ready = KnowsReady s.cluster s.corpus.now s.script.now (past_of before s.history) ready

-- one of the events since there were so many is about the task
abbrev pub was_met : ℕ → List Event → TaskId → Bool
was_met before h t = list_any (is_about t) (take (length h - before) h)

-- It is known which of the tasks wait now that these events are about, and of the others which waited before.
pub record HasNoted (s : State) (before : ℕ) (ready : Ready) : Type 0 where
  pub tasks : (t : TaskId) → contains task_id_cmp ready.tasks t ≡ (if was_met before s.history t then ready_in s t else is_ready s.cluster s.corpus.now s.script.now (past_of before s.history) t)
  pub kept : AreAlarms ready.alarms
  pub alarms : (t : TaskId) → alarm_at ready.alarms t ≡ (if was_met before s.history t then alarm_in s t else due_of s.cluster s.corpus.now s.script.now t (past_of before s.history))
  pub results : KnowsResults s.script.now s.history ready.results

-- It is known which tasks wait, but for those whose moment has come: they wait for none any more.
pub record HasAlarmed (s : State) (ready : Ready) : Type 0 where
  pub tasks : (t : TaskId) → has_come s.clock (alarm_at ready.alarms t) ≡ false → contains task_id_cmp ready.tasks t ≡ ready_in s t
  pub kept : AreAlarms ready.alarms
  pub alarms : (t : TaskId) → alarm_in s t ≡ (if has_come s.clock (alarm_at ready.alarms t) then None else alarm_at ready.alarms t)
  pub results : KnowsResults s.script.now s.history ready.results

-- the moment for which a kept task waits that has passed and is not marked, where it works on a shard with these writes
abbrev pub due_by : Running → List Doc → ℕ → Option ℕ
due_by running writes now = if running.is_new || is_some running.track.closed then None else due_in (works.next_of running.work writes now)

-- Where the world goes on, its tables say of the past what they should, it knows which tasks wait, and it can do each command.
pub record GoesOn (s : State) (ready : Ready) : Type 0 where
  pub tied : IsTied s
  pub ready_known : HasReady s ready
  pub can_run : CanRun s.cluster.nodes s.script.now.commands
  pub few : length s.script.now.commands ≤ 65535

-- A world that came to an early end keeps its past.
abbrev pub IsWorld : State → Ready → Option Stop → Type 0
IsWorld s ready None = GoesOn s ready
IsWorld s ready (Some stop) = KeepsLaws s

-- Settling has come so far: the tables say of the past what they should, and the past is made by first moves.
pub record HasSettled (start now : State) (ready : Ready) : Type 0 where
  pub tied : IsTied now
  pub known : HasReady now ready
  pub keeps : Keeps start now
  pub passes : (between : List (List Event)) × Passes start.cluster start.corpus.now start.script.now start.history between now.history

-- A drain has come so far that settling starts once more.
pub record HasDrained (start now : State) (ready : Ready) : Type 0 where
  pub tied : IsTied now
  pub known : HasReady now ready
  pub keeps : Keeps start now
  pub closing : last_command now.history ≡ last_command start.history
  pub goes : (between : List (List Event)) × StartsAgain start.cluster start.corpus.now start.script.now start.history between now.history

-- the empty tables of so many nodes, of which the first follows this one
abbrev pub tables_from : ℕ → ℕ → ℕ → List Table
tables_from node nodes slots = map (λ place. new_table (place + 1) slots) (range_with_len node nodes)

-- no ban stands on so many nodes, of which the first follows this one, and nothing is cancelled there
abbrev pub cores_from : ℕ → ℕ → List Cancellations
cores_from node nodes = map (λ place. no_cancellations (place + 1)) (range_with_len node nodes)

abbrev pub no_contexts : ℕ → List (FinMap task_id_cmp Context)
no_contexts nodes = map (λ place. empty) (range_with_len 0 nodes)

abbrev pub no_bans : ℕ → List (FinMap task_id_cmp ℕ)
no_bans nodes = map (λ place. empty) (range_with_len 0 nodes)
