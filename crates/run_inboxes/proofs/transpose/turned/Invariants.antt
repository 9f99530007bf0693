use Rattle.std.proofs.Common.{◌≡◌, ◌++◌}
use Rattle.run_inboxes.specs.Rows.{IsTurned}
use Rattle.run_inboxes.proofs.transpose.turned.Given as goal

abbrev pub invariant-loop-row : goal.invariant-loop-row
invariant-loop-row g l =
    (goal.iterator-loop-row g).can_next l.row-iterator × (goal.iterator-loop-row g).is_finite l.row-iterator
    × (l.yielded ++ l.row-iterator.rest.items ≡ l.fn.rows.items)
    × IsTurned l.fn.width l.yielded l.columns.items
