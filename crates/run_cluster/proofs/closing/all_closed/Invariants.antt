use Rattle.std.proofs.Common.{◌≡◌, List, ◌++◌, reverse}
use Rattle.run_inboxes.specs.Pairs.{Pairwise}
use Rattle.run_cluster.specs.Closing.{IsClosedBoard}
use Rattle.run_cluster.proofs.closing.all_closed.Given as goal

abbrev pub invariant-loop-board : goal.invariant-loop-board
invariant-loop-board g l =
    (goal.iterator-loop-board g).can_next l.board-iterator × (goal.iterator-loop-board g).is_finite l.board-iterator
    × (l.yielded ++ l.board-iterator.rest.items ≡ l.fn.boards.items)
    × ((gone : List _) × (gone ++ reverse l.seats.items ≡ l.fn.seats.items) × (Rattle.std.proofs.Common.length gone ≡ Rattle.std.proofs.Common.length l.yielded) × Pairwise IsClosedBoard gone l.all.items)
