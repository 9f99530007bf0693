use Rattle.std.proofs.Common.{◌≡◌, ℕ, ◌≤◌, ◌<◌, [], ◌++◌, length, true}
use Rattle.crossbeam_channel.specs.Claims.{view, IsSeatAt}
use Rattle.crossbeam_channel.specs.Ends.{receives_on}
use Rattle.node_link.specs.Rule.{of}
use Rattle.node_link.specs.Inbox.{got, senders_of, sent_by, sent_total}
use Rattle.node_link.proofs.Counts.{Each}
use Rattle.node_link.proofs.ends.Receiver.finish.Given as goal

abbrev pub invariant-loop-end : goal.invariant-loop-end
invariant-loop-end g l =
    (goal.iterator-loop-end g).can_next l.end-iterator × (goal.iterator-loop-end g).is_finite l.end-iterator
    × IsSeatAt (receives_on l.mouth) l.pass
    × (((view l.pass).gets ≡ true) × ((view l.pass).got ≡ got l.fn.self) × ((view l.pass).made ≡ senders_of l.fn.self))
    × Each sent_by (got l.fn.self) 0 l.yielded
    × (0 < length l.yielded → (p : ℕ) → senders_of l.fn.self ≤ p → of p (got l.fn.self) ≡ [])
    × (l.sent ≡ sent_total l.yielded)
    × (l.yielded ++ l.end-iterator.rest.items ≡ l.fn.ends.items)
