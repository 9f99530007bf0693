use Rattle.run_inboxes.specs.Ends.{SameEnds}
use Rattle.run_book.specs.Entries.{Keeps, SameRun, is_known_to}
use Rattle.run_driver.specs.Drives.{AreFirst}
use Rattle.run_driver.proofs.commands.answers.Given as goal

abbrev pub invariant-loop-before : goal.invariant-loop-before
invariant-loop-before g l =
    Keeps g.W.Run.cancels g.W.Run.setting l.book × SameRun l.initial.book l.book × SameEnds l.initial.ends l.ends
    × AreFirst g.W.Run.cancels g.W.Run.setting (is_known_to l.initial.book) l.initial.book.script.now l.before l.notes.items
