use Rattle.std.proofs.Common.{◌≡◌, ◌++◌, reverse}
use Rattle.std.specs.Prelude.{map}
use Rattle.run_inboxes.proofs.opening.joined.Given as goal

abbrev pub invariant-loop-inbox : goal.invariant-loop-inbox
invariant-loop-inbox g l =
    (goal.iterator-loop-inbox g).can_next l.inbox-iterator × (goal.iterator-loop-inbox g).is_finite l.inbox-iterator
    × (l.yielded ++ l.inbox-iterator.rest.items ≡ l.fn.inboxes.items)
    × (map (λ e. e.inbox) l.all.items ≡ l.yielded)
    × (map (λ e. e.senders) l.all.items ++ reverse l.senders.items ≡ l.fn.senders.items)
