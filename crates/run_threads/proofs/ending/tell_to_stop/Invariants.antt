use Rattle.run_inboxes.specs.Ends.{SameEnds}
use Rattle.run_threads.proofs.ending.tell_to_stop.Given as goal

abbrev pub invariant-loop-to : goal.invariant-loop-to
invariant-loop-to g l = SameEnds l.initial.ends l.ends
