use Rattle.std.proofs.Common.{◌≡◌, ◌++◌, length}
use Rattle.run_inboxes.specs.Rows.{HandedOut}
use Rattle.run_inboxes.proofs.transpose.hand_out.Given as goal

abbrev pub invariant-loop-thing : goal.invariant-loop-thing
invariant-loop-thing g l =
    (goal.iterator-loop-thing g).can_next l.thing-iterator × (goal.iterator-loop-thing g).is_finite l.thing-iterator
    × (l.place ≡ length l.yielded)
    × (l.yielded ++ l.thing-iterator.rest.items ≡ l.fn.row.items)
    × HandedOut l.initial.columns.items l.yielded l.columns.items
