-- When the result of a task stands, by the past.
use Rattle.std.specs.Prelude.{◌≡◌, ℕ, List, [], ◌∷◌, Bool, false, ◌&&◌, Option, Some, None, if◌then◌else◌}
use Rattle.std.specs.Option.{option_map_or}
use Rattle.std.specs.FinMap.{FinMap, empty, insert, remove}
use Rattle.task_ids.specs.declared.task_id.TaskId.{TaskId}
use Rattle.task_ids.specs.TaskIdOrder.{task_id_cmp}
use Rattle.task_events.specs.declared.event.Event.{Event}
use Rattle.task_events.specs.declared.event.Event.TheVariants.{Begin, Root, End}
use Rattle.task_events.specs.declared.reply.Reply.{Reply}
use Rattle.task_events.specs.Same.{same_task}
use Rattle.task_events.specs.Tasks.{reply_of}

-- What the commands of a script say of results, each by its number.
pub record Keeping : Type 0 where
  -- the reply of the task that it starts is stored
  pub stores : ℕ → Bool
  -- the task whose result it forgets, by what happened before
  pub forgets : ℕ → List Event → Option TaskId

-- a command started the task, and stores its reply
abbrev pub is_stored : Keeping → TaskId → List Event → Bool
is_stored script t [] = false
is_stored script t (Root k u ∷ h) = if same_task t u then script.stores k else is_stored script t h
is_stored script t (_ ∷ h) = is_stored script t h

-- a command that begins forgets the result of this task
abbrev pub is_forgotten : Keeping → TaskId → ℕ → List Event → Bool
is_forgotten script t k h = option_map_or (same_task t) (script.forgets k h) false

-- The result of a task, where it stands: from the task's end on, where its command stores it, until a command begins that forgets it.
abbrev pub result_at : Keeping → TaskId → List Event → Option Reply
result_at script t [] = None
result_at script t (Begin k ∷ h) = if is_forgotten script t k h then None else result_at script t h
result_at script t (End u reply ∷ h) = if same_task t u && is_stored script t h then Some reply else result_at script t h
result_at script t (_ ∷ h) = result_at script t h

abbrev pub ResultStands : Keeping → TaskId → Reply → List Event → Type 0
ResultStands script t reply h = result_at script t h ≡ Some reply

-- All results that stand, by their tasks.
abbrev pub results_at : Keeping → List Event → FinMap task_id_cmp Reply
results_at script [] = empty
results_at script (Begin k ∷ h) = option_map_or (remove (results_at script h)) (script.forgets k h) (results_at script h)
results_at script (End t reply ∷ h) = if is_stored script t h then insert (results_at script h) t reply else results_at script h
results_at script (_ ∷ h) = results_at script h

-- What a command is told that waited for a task, once it has ended: its reply, where its command stores it.
abbrev pub told_at_end : Keeping → TaskId → List Event → Option Reply
told_at_end script t h = if is_stored script t h then reply_of t h else None
