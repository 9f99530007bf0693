use Rattle.std.proofs.Common.{◌≡◌}
use Rattle.std.specs.List.{list_any}
use Rattle.line_print.specs.Lines.{finds_none}
use Rattle.line_print.proofs.cancel_lines.finds_none.Given as goal

abbrev pub invariant-loop-event : goal.invariant-loop-event
invariant-loop-event l = list_any finds_none l.event-iterator ≡ list_any finds_none l.turn
