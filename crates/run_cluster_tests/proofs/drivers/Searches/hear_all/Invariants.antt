use Rattle.run_inboxes.specs.Ends.{SameEnds}
use Rattle.run_cluster_tests.proofs.drivers.Searches.hear_all.Given as goal

abbrev pub invariant-loop : goal.invariant-loop
invariant-loop g l = (goal.iterator-loop g).can_next l.iterator' × (goal.iterator-loop g).is_finite l.iterator' × SameEnds l.initial.ends l.ends
