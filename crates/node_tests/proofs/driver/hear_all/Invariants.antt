use Rattle.run_inboxes.specs.Ends.{SameEnds}
use Rattle.node_tests.proofs.driver.hear_all.Given as goal

abbrev pub invariant-loop : goal.invariant-loop
invariant-loop g l = SameEnds l.initial.ends l.ends
