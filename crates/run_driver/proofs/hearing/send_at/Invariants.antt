use Rattle.std.proofs.Common.{◌≡◌, length}
use Rattle.run_inboxes.specs.Ends.{SameEnds}
use Rattle.run_book.specs.Entries.{Keeps, SameRun}
use Rattle.run_driver.proofs.hearing.send_at.Given as goal

abbrev pub invariant-loop : goal.invariant-loop
invariant-loop g l =
    (goal.iterator-loop g).can_next l.iterator' × (goal.iterator-loop g).is_finite l.iterator'
    × Keeps g.W.Run.cancels g.W.Run.setting l.book × SameRun l.initial.book l.book × (length l.book.entries.items ≡ length l.initial.book.entries.items) × SameEnds l.initial.ends l.ends
