use Rattle.std.proofs.Common.{◌≢◌, ℕ, ◌<◌, slice_index}
use Rattle.race_board.proofs.seats.ControlSeat.slot_marked.Given as goal

abbrev pub invariant-loop-slot : goal.invariant-loop-slot
invariant-loop-slot g l = (i : ℕ) → i < l.slot → slice_index l.self.place.me.0.last i ≢ l.number
