-- No place before this one has the ticket.
use Rattle.std.proofs.Common.{ℕ, ◌<◌, get_or, None}
use Rattle.node_boards.specs.PlainSeats.{IsHeld}
use Rattle.node_boards.proofs.plain_rows.find_ticket.Given as goal

abbrev pub invariant-loop-i : goal.invariant-loop-i
invariant-loop-i l = (k : ℕ) → k < l.i → ¬ IsHeld l.number (get_or l.tickets k None)
