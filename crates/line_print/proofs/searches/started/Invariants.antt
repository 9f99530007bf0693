use Rattle.std.proofs.Common.{◌≡◌}
use Rattle.line_print.specs.Lines.{first_in, root_in}
use Rattle.line_print.proofs.searches.started.Given as goal

abbrev pub invariant-loop-event : goal.invariant-loop-event
invariant-loop-event l = first_in root_in l.event-iterator ≡ first_in root_in l.turn
