use Rattle.std.proofs.Common.{◌≡◌, ◌++◌, reverse}
use Rattle.std.specs.Prelude.{map}
use Rattle.run_cluster.specs.Places.{inboxes_of, AreWide}
use Rattle.run_cluster.proofs.places.deal.Given as goal

abbrev pub invariant-loop-board : goal.invariant-loop-board
invariant-loop-board g l =
    (goal.iterator-loop-board g).can_next l.board-iterator × (goal.iterator-loop-board g).is_finite l.board-iterator
    × (l.yielded ++ l.board-iterator.rest.items ≡ l.fn.piles.boards.items)
    × (map (λ p. p.board) l.places.items ≡ l.yielded)
    × (inboxes_of l.places.items ++ reverse l.inboxes.items ≡ l.fn.piles.inboxes.items)
    × AreWide l.fn.workers l.places.items
