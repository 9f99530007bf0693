-- Seats and boards, as clauses see them.
use Rattle.std.specs.Prelude.{◌≡◌, ℕ}
use Rattle.task_ids.specs.declared.board_name.BoardName as name
use Rattle.race_board.specs.declared.views.Size.{Size}
use Rattle.race_board.specs.declared.views.View.{View}
use Rattle.race_board.specs.declared.seats.DataSeat.{DataSeat}
use Rattle.race_board.specs.declared.seats.ControlSeat.{ControlSeat}
use Rattle.race_board.specs.declared.board.RaceBoard.{RaceBoard}
use Rattle.race_board.specs.Board.{newcomer}

abbrev pub board_size : {N : Type 0} → RaceBoard N → Size
board_size b = b.words.size

module _ {N : Type 0} {G : name.Ghosts N} where
  -- what the seat knows
  abbrev pub seat_view : DataSeat N G → View
  seat_view s = s.place.me.0

  abbrev pub control_view : ControlSeat N G → View
  control_view s = s.place.me.0

  -- it was split off for this board
  abbrev pub IsSeatOf : RaceBoard N → DataSeat N G → Type 0
  IsSeatOf b s = (s.place.table_id ≡ b.words.table.shared.table_id) × (s.place.me.0.size ≡ b.words.size)

  abbrev pub IsControlOf : RaceBoard N → ControlSeat N G → Type 0
  IsControlOf b s = (s.place.table_id ≡ b.words.table.shared.table_id) × (s.place.me.0.size ≡ b.words.size)

  -- a data seat that has done nothing
  abbrev pub IsNew : RaceBoard N → DataSeat N G → Type 0
  IsNew b s = (s.place.table_id ≡ b.words.table.shared.table_id) × (s.place.me.0 ≡ newcomer b.words.size 0 0)

-- the control's view after n seats were split off
abbrev pub dealt : Size → ℕ → View
dealt z n = newcomer z 1 (Rattle.std.specs.Prelude.◌-◌ z.seats n)
