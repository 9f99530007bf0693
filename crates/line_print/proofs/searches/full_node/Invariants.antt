use Rattle.std.proofs.Common.{◌≡◌}
use Rattle.line_print.specs.Lines.{first_in, full_node_in}
use Rattle.line_print.proofs.searches.full_node.Given as goal

abbrev pub invariant-loop-event : goal.invariant-loop-event
invariant-loop-event l = first_in full_node_in l.event-iterator ≡ first_in full_node_in l.turn
