use Rattle.std.proofs.Common.{◌≡◌, length}
use Rattle.run_inboxes.specs.Rows.{HasWidth}
use Rattle.run_inboxes.proofs.transpose.empty_columns.Given as goal

abbrev pub invariant-loop : goal.invariant-loop
invariant-loop g l = (length l.columns.items ≡ l.counter) × HasWidth 0 l.columns.items
