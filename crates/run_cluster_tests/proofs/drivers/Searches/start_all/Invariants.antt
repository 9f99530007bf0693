use Rattle.run_inboxes.specs.Ends.{SameEnds}
use Rattle.run_cluster_tests.proofs.drivers.Searches.start_all.Given as goal

abbrev pub invariant-loop-before : goal.invariant-loop-before
invariant-loop-before g l = SameEnds l.initial.ends l.ends
