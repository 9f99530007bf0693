-- What the commands of a script ask for, and what each task was asked to do.
use Rattle.std.specs.Prelude.{ℕ, List, [], ◌∷◌, Option, None, if◌then◌else◌}
use Rattle.task_ids.specs.declared.task_id.TaskId.{TaskId}
use Rattle.task_ids.specs.declared.task_info.Headers.{Headers}
use Rattle.task_events.specs.declared.request.Request.{Request}
use Rattle.task_events.specs.declared.event.Event.{Event}
use Rattle.task_events.specs.declared.event.Event.TheVariants.{Root, Put}
use Rattle.task_events.specs.Same.{same_task}
use Rattle.task_events.specs.Asks.{request_of_ask}

-- What the commands of a script say, each by its number and by what happened before.
pub record Scripted : Type 0 where
  -- what its root is asked to do
  pub root : ℕ → List Event → Option Request
  -- what that request carries
  pub carried : ℕ → Headers
  -- the context that it clears
  pub clears : ℕ → List Event → Option TaskId

-- What a task was asked to do: a root by its command, a child by its parent.
abbrev pub request_of : Scripted → TaskId → List Event → Option Request
request_of script t [] = None
request_of script t (Root k u ∷ h) = if same_task t u then script.root k h else request_of script t h
request_of script t (Put u p k ∷ h) = if same_task t u then request_of_ask p k h else request_of script t h
request_of script t (_ ∷ h) = request_of script t h
