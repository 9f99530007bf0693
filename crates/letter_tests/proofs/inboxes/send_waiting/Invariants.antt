use Rattle.node_link.specs.Inbox.{IsSame}
use Rattle.letter_tests.proofs.inboxes.send_waiting.Given as goal

abbrev pub invariant-loop : goal.invariant-loop
invariant-loop g l =
    (goal.iterator-loop g).can_next l.iterator' × (goal.iterator-loop g).is_finite l.iterator'
    × IsSame l.initial.sender l.sender
