use Rattle.std.proofs.Common.{◌≡◌, ◌++◌}
use Rattle.node_link.specs.Inbox.{LeftBy}
use Rattle.run_inboxes.specs.Pairs.{Pairwise}
use Rattle.run_inboxes.proofs.closing.ended.Given as goal

abbrev pub invariant-loop-sender : goal.invariant-loop-sender
invariant-loop-sender g l =
    (goal.iterator-loop-sender g).can_next l.sender-iterator × (goal.iterator-loop-sender g).is_finite l.sender-iterator
    × (l.yielded ++ l.sender-iterator.rest.items ≡ l.fn.senders.items)
    × Pairwise LeftBy l.yielded l.ends.items
