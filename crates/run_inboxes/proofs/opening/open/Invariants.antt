use Rattle.std.proofs.Common.{◌≡◌, length}
use Rattle.run_inboxes.specs.Pairs.{Pairwise}
use Rattle.run_inboxes.specs.Ends.{IsOpened}
use Rattle.run_inboxes.proofs.opening.open.Given as goal

abbrev pub invariant-loop : goal.invariant-loop
invariant-loop g l = (length l.inboxes.items ≡ l.counter) × Pairwise (IsOpened l.fn.capacity l.fn.count) l.inboxes.items l.senders.items
