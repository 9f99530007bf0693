-- What is told of a board that is closed.
use Rattle.std.specs.Prelude.{◌≡◌}
use Rattle.task_ids.specs.declared.board_name.BoardName as name
use Rattle.race_board.specs.declared.closing.Closed.{Closed}
use Rattle.race_board.specs.Seats.{control_view}
use Rattle.race_board.specs.Closing.{all_tickets, bans_out}
use Rattle.run_cluster.specs.declared.boards.Seats.{Seats}

module _ {N : Type 0} {G : name.Ghosts N} where
  -- the board with these seats was closed: so many tickets were still out, and so many bans still stood
  pub record IsClosedBoard (seats : Seats N G) (told : Closed) : Type 0 where
    pub live : told.live ≡ all_tickets seats.datas.items
    pub bans : told.bans ≡ bans_out (control_view seats.control)
