use Rattle.std.proofs.Common.{◌≢◌, ℕ, ◌<◌}
use Rattle.race_board.specs.Board.{ban}
use Rattle.race_board.proofs.seats.ControlSeat.place_of.Given as goal

abbrev pub invariant-loop-place : goal.invariant-loop-place
invariant-loop-place g l = (j : ℕ) → j < l.place → (ban l.self.place.me.0 j).parent ≢ l.key
