use Rattle.std.proofs.Common.{◌≢◌, ℕ, ◌<◌, slice_index}
use Rattle.race_board.specs.Words.{number}
use Rattle.race_board.proofs.seats.DataSeat.slot_of.Given as goal

abbrev pub invariant-loop-i : goal.invariant-loop-i
invariant-loop-i g l = (k : ℕ) → k < l.i → number (slice_index l.self.words.items k) ≢ l.sought
