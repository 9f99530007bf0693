use Rattle.std.proofs.Common.{◌≡◌, List, ◌++◌, reverse}
use Rattle.run_inboxes.specs.Pairs.{Threewise}
use Rattle.run_inboxes.specs.Closed.{IsFinished}
use Rattle.run_inboxes.proofs.closing.finished.Given as goal

abbrev pub invariant-loop-inbox : goal.invariant-loop-inbox
invariant-loop-inbox g l =
    (goal.iterator-loop-inbox g).can_next l.inbox-iterator × (goal.iterator-loop-inbox g).is_finite l.inbox-iterator
    × (l.yielded ++ l.inbox-iterator.rest.items ≡ l.fn.inboxes.items)
    × ((done : List _) × (done ++ reverse l.columns.items ≡ l.fn.columns.items) × Threewise IsFinished l.yielded done l.tallies.items)
