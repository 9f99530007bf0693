-- The seats of a new plain board.
use Rattle.std.specs.Prelude.{◌≡◌, ℕ, false, None, length, slice_index_or}
use Rattle.task_ids.specs.declared.board_name.BoardName as name
use Rattle.node_boards.specs.PlainSeats.{ticket, placed}
use Rattle.node_boards.specs.declared.plain_data.PlainDataSeat.{PlainDataSeat}
use Rattle.node_boards.specs.declared.plain_control.PlainControlSeat.{PlainControlSeat}

module _ {N : Type 0} {G : name.Ghosts N} where
  -- a data seat that has done nothing
  pub record IsNewData (s : PlainDataSeat N G) : Type 0 where
    pub holds_none : (i : ℕ) → ticket s.tickets.items i ≡ None
    pub drew_none : s.drawn ≡ None
    pub not_told : s.told ≡ false

  -- a control seat that has done nothing, for so many slots and places
  abbrev pub IsNewControl : PlainControlSeat N G → ℕ → ℕ → Type 0
  IsNewControl s slots places = (length s.marked.items ≡ slots) × (length s.bans.items ≡ places) × ((j : ℕ) → placed s.bans.items j ≡ None) × ((i : ℕ) → slice_index_or s.marked.items i None ≡ None)
