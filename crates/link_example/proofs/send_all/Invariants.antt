use Rattle.node_link.specs.Inbox.{IsSame}
use Rattle.link_example.proofs.send_all.Given as goal

abbrev pub invariant-loop-letter : goal.invariant-loop-letter
invariant-loop-letter g l = IsSame l.initial.sender l.sender
