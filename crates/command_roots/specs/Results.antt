-- What the commands of a script say of the results of tasks, and what a command finds that is about a task.
use Rattle.std.specs.Prelude.{ℕ, List, Bool, false, Option, Some, None, is_some, option_and_then, if◌then◌else◌}
use Rattle.std.specs.Option.{option_map_or}
use Rattle.task_ids.specs.declared.task_id.TaskId.{TaskId}
use Rattle.task_events.specs.declared.event.Event.{Event}
use Rattle.task_events.specs.declared.reply.Counts.{Counts}
use Rattle.task_events.specs.declared.request.Request.{Request}
use Rattle.task_events.specs.declared.request.Request.TheVariants as asks
use Rattle.task_events.specs.ReindexTask.{reindex_counts}
use Rattle.task_events.specs.Requests.{request_of}
use Rattle.task_events.specs.Tasks.{is_live}
use Rattle.task_events.specs.Steps.{asked_by}
use Rattle.task_results.specs.Stands.{Keeping, result_at}
use Rattle.script_lang.specs.declared.command.Command.{Command}
use Rattle.script_lang.specs.declared.command.Command.TheVariants.{Reindex, ForgetTask}
use Rattle.script_lang.specs.declared.command.Script.{Script}
use Rattle.script_lang.specs.declared.command.TaskTarget.{TaskTarget}
use Rattle.script_lang.specs.declared.command.TaskTarget.TheVariants as tasks
use Rattle.command_roots.specs.declared.results.TaskFound.{TaskFound}
use Rattle.command_roots.specs.declared.results.TaskFound.TheVariants.{Live, Ended, Missing}
use Rattle.command_roots.specs.Roots.{command_at, root_of, scripted}

-- the task that a command is about, if there is one
abbrev pub task_named : TaskTarget → List Event → Option TaskId
task_named (tasks.Id id) h = Some id
task_named (tasks.Command k) h = root_of k h

-- ---- what the commands say

-- it is a reindex whose reply is stored
abbrev pub stores_in : Command → Bool
stores_in (Reindex node body slices rate opaque_id store) = store
stores_in _ = false

abbrev pub stores : Script → ℕ → Bool
stores script k = option_map_or stores_in (command_at script k) false

-- the task whose result a command forgets
abbrev pub forgotten_in : Command → List Event → Option TaskId
forgotten_in (ForgetTask task) h = task_named task h
forgotten_in _ h = None

abbrev pub forgotten : Script → ℕ → List Event → Option TaskId
forgotten script k h = option_and_then (λ command. forgotten_in command h) (command_at script k)

-- what the commands of a script say of results
abbrev pub keeping : Script → Keeping
keeping script = record { stores = stores script; forgets = forgotten script }

-- ---- what a command finds

-- the result of the task of an id stands, if there is one
abbrev pub has_result : Script → Option TaskId → List Event → Bool
has_result script task h = option_map_or (λ t. is_some (result_at (keeping script) t h)) task false

-- the task of an id, if there is one: live, or ended with a result that stands, or neither
abbrev pub found_at : Script → Option TaskId → List Event → TaskFound
found_at script None h = Missing None
found_at script (Some t) h = if is_live t h then Live t else (if has_result script (Some t) h then Ended t else Missing (Some t))

-- What a command finds that is about a task.
abbrev pub found_of : Script → TaskTarget → List Event → TaskFound
found_of script target h = found_at script (task_named target h) h

-- what a task has done that was asked to do this, where it is the root of a reindex
abbrev pub status_in : TaskId → List Event → Option Request → Option Counts
status_in t h (Some (asks.Reindex ask)) = Some (reindex_counts ask (asked_by t h))
status_in t h _ = None

-- What the root of a reindex has done so far. Other tasks have no such numbers, the slices of a reindex neither.
abbrev pub status_of : Script → TaskId → List Event → Option Counts
status_of script t h = status_in t h (request_of (scripted script) t h)
