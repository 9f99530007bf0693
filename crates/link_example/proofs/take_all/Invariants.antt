use Rattle.node_link.specs.Inbox.{SameInbox}
use Rattle.link_example.proofs.take_all.Given as goal

abbrev pub invariant-loop : goal.invariant-loop
invariant-loop g l = SameInbox l.initial.receiver l.receiver
