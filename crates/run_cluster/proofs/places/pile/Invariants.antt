use Rattle.std.proofs.Common.{◌≡◌, ◌++◌}
use Rattle.std.specs.Prelude.{map}
use Rattle.run_cluster.specs.Places.{inboxes_of}
use Rattle.run_cluster.proofs.places.pile.Given as goal

abbrev pub invariant-loop-place : goal.invariant-loop-place
invariant-loop-place g l =
    (goal.iterator-loop-place g).can_next l.place-iterator × (goal.iterator-loop-place g).is_finite l.place-iterator
    × (l.yielded ++ l.place-iterator.rest.items ≡ l.fn.dealt.places.items)
    × (map (λ p. p.board) l.yielded ≡ l.boards.items)
    × (inboxes_of l.yielded ≡ l.inboxes.items)
