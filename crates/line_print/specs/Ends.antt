-- The replies of tasks, found by the places of the events with which they ended.
use Rattle.std.specs.Prelude.{◌≡◌, ℕ, ◌-◌, Bool, ◌&&◌, ◌==◌, List, Option, option_map, option_and_then, slice_get, length, reverse, take, drop}
use Rattle.std.specs.HashMap.{HashMap, get}
use Rattle.task_ids.specs.declared.task_id.TaskId.{TaskId}
use Rattle.task_events.specs.declared.event.Event.{Event}
use Rattle.task_events.specs.declared.reply.Reply.{Reply}
use Rattle.task_events.specs.Tasks.{reply_of}
use Rattle.line_print.specs.Lines.{ending}

abbrev pub same_id : TaskId → TaskId → Bool
same_id t u = (t.node == u.node) && (t.number == u.number)

-- the reply of the task that ended with the event at a place
abbrev pub reply_at : List Event → Option ℕ → Option Reply
reply_at events at = option_map (λ end. end.1) (option_and_then ending (option_and_then (slice_get events) at))

-- the places are those at which tasks ended among so many first events
abbrev pub AreEndsOfFirst : {S : Type 0} → ℕ → List Event → HashMap TaskId ℕ S → Type 0
AreEndsOfFirst count events ends = (t : TaskId) → reply_at events (get same_id ends t) ≡ reply_of t (reverse (take count events))

-- the last events of a history
abbrev pub IsRest : List Event → List Event → Type 0
IsRest history rest = rest ≡ drop (length history - length rest) (reverse history)

-- the places are those at which tasks ended before the last events
abbrev pub AreEndsBefore : {S : Type 0} → List Event → List Event → HashMap TaskId ℕ S → Type 0
AreEndsBefore history rest ends = AreEndsOfFirst (length history - length rest) (reverse history) ends
