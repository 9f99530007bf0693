-- What was listed stays marked.
use Rattle.std.proofs.Common.{ℕ, ◌<◌, slice_index}
use Rattle.board_races.proofs.control.take_masks.Given as goal

abbrev pub invariant-loop-k : goal.invariant-loop-k
invariant-loop-k g l = (k : ℕ) → k < l.count → g.C.ControlBoard.marked l.control (slice_index l.listed k)
