use Rattle.std.proofs.Common.{◌≡◌, ◌++◌, List, map}
use Rattle.serde_json.specs.Data.{string}
use Rattle.serde_json.specs.View.{items_of}
use Rattle.serde_json.specs.Written.{items_text}
use Rattle.task_events.specs.declared.event.Event.{Event}
use Rattle.line_print.specs.Lines.{told}
use Rattle.line_print.proofs.told.push_events.Given as goal

-- what is appended so far and what is still to come are one list
abbrev pub invariant-loop-event : goal.invariant-loop-event
invariant-loop-event l = (more : List Event) →
    l.out.items ++ items_text l.has (items_of (map (λ event. string (told l.script event)) (l.event-iterator ++ more)))
    ≡ l.fn.out.items ++ items_text l.later (items_of (map (λ event. string (told l.script event)) (l.events ++ more)))
