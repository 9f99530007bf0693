-- What a seat has of an entry.
use Rattle.std.specs.Prelude.{ℕ}
use Rattle.node_boards.specs.Seats.{HasTicket}
use Rattle.board_races.specs.declared.data.Entry.{Entry}
use Rattle.board_races.specs.declared.data.Entry.TheVariants.{Live, Rejected}

-- a live child's ticket is the seat's
abbrev pub IsHeld : (ℕ → ℕ → Type 0) → Entry → Type 0
IsHeld has (Live child) = HasTicket has child.ticket
IsHeld has (Rejected receipt) = Unit {0}
