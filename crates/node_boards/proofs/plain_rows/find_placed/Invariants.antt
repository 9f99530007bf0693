-- No place before this one holds a ban of the parent.
use Rattle.std.proofs.Common.{ℕ, ◌<◌, get_or, None}
use Rattle.node_boards.specs.PlainSeats.{IsPlaced}
use Rattle.node_boards.proofs.plain_rows.find_placed.Given as goal

abbrev pub invariant-loop-j : goal.invariant-loop-j
invariant-loop-j l = (k : ℕ) → k < l.j → ¬ IsPlaced l.parent (get_or l.bans k None)
