use Rattle.run_inboxes.specs.Ends.{SameEnds}
use Rattle.run_book.specs.Entries.{Keeps, SameRun}
use Rattle.run_driver.proofs.commands.do_all.Given as goal

abbrev pub invariant-loop-before : goal.invariant-loop-before
invariant-loop-before g l = Keeps g.W.Run.cancels g.W.Run.setting l.book × SameRun l.initial.book l.book × SameEnds l.initial.ends l.ends
