use Rattle.std.proofs.Common.{◌≡◌, ℕ, ◌+◌, length, Some}
use Rattle.std.specs.Prelude.{slice_get}
use Rattle.race_board.specs.declared.board.RaceBoard.{RaceBoard}
use Rattle.run_cluster.specs.Boards.{IsNewBoard}
use Rattle.run_cluster.proofs.boards.Boards.new.Given as goal

abbrev pub invariant-loop-before : goal.invariant-loop-before
invariant-loop-before g l =
    (length l.all.boards.items ≡ l.before) × (length l.all.seats.items ≡ l.before)
    × ((k : ℕ) (b : RaceBoard g.row.N.Denot) (s : _) → slice_get l.all.boards.items k ≡ Some b → slice_get l.all.seats.items k ≡ Some s → IsNewBoard l.fn.cluster.slots l.fn.workers (k + 1) b s)
