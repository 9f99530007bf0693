use Rattle.std.proofs.Common.{◌≡◌, ◌++◌, filter_map}
use Rattle.line_print.specs.Lines.{named_in}
use Rattle.line_print.proofs.cancel_lines.named.Given as goal

-- the tasks so far and those that are still to come
abbrev pub invariant-loop-event : goal.invariant-loop-event
invariant-loop-event l = l.tasks.items ++ filter_map named_in l.event-iterator ≡ filter_map named_in l.turn
