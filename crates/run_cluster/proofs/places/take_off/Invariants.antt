use Rattle.std.proofs.Common.{◌≡◌, ◌≤◌, ◌+◌, ◌++◌, length, reverse}
use Rattle.run_cluster.proofs.places.take_off.Given as goal

abbrev pub invariant-loop : goal.invariant-loop
invariant-loop g l =
    (length l.taken.items ≡ l.counter)
    × (l.fn.count ≤ length l.pile.items + l.counter)
    × (reverse l.initial.pile.items ≡ l.taken.items ++ reverse l.pile.items)
