-- The boards of a cluster, with their seats.
use Rattle.std.specs.Prelude.{◌≡◌, ℕ, ◌+◌, List, All, length, slice_get, Some}
use Rattle.task_ids.specs.declared.board_name.BoardName as name
use Rattle.task_ids.specs.declared.cluster.Cluster.{Cluster}
use Rattle.race_board.specs.declared.board.RaceBoard.{RaceBoard}
use Rattle.race_board.specs.Board.{newcomer}
use Rattle.race_board.specs.Seats.{control_view, board_size, IsSeatOf, IsControlOf, IsNew}
use Rattle.race_board.specs.Closing.{bans_out, all_tickets}
use Rattle.run_cluster.specs.declared.boards.Seats.{Seats}

module _ {N : Type 0} {G : name.Ghosts N} where
  -- a board of that node, with so many slots, room for 1,024 bans and a data seat for each of so many data workers, and its new seats
  pub record IsNewBoard (slots workers node : ℕ) (b : RaceBoard N) (seats : Seats N G) : Type 0 where
    pub here : b.node ≡ node
    pub size : board_size b ≡ record { slots = slots; bans = 1024; seats = workers }
    pub fits : IsControlOf b seats.control
    pub fresh : control_view seats.control ≡ newcomer (board_size b) 1 0
    pub count : length seats.datas.items ≡ workers
    pub new : All (IsNew b) seats.datas.items

  -- a new board for each node of the cluster, in their order
  pub record AreNewBoards (cluster : Cluster) (workers : ℕ) (boards : List (RaceBoard N)) (seats : List (Seats N G)) : Type 0 where
    pub boards_count : length boards ≡ cluster.nodes
    pub seats_count : length seats ≡ cluster.nodes
    pub each : (k : ℕ) (b : RaceBoard N) (s : Seats N G) → slice_get boards k ≡ Some b → slice_get seats k ≡ Some s → IsNewBoard cluster.slots workers (k + 1) b s

  -- the seats are all seats of this board
  pub record AreSeatsOf (b : RaceBoard N) (seats : Seats N G) : Type 0 where
    pub count : length seats.datas.items ≡ (board_size b).seats
    pub control : IsControlOf b seats.control
    pub own : All (IsSeatOf b) seats.datas.items

  -- no ban and no ticket is out at these seats
  pub record HoldNothing (seats : Seats N G) : Type 0 where
    pub bans : bans_out (control_view seats.control) ≡ 0
    pub tickets : all_tickets seats.datas.items ≡ 0

  -- nor at those of any node
  abbrev pub AllHoldNothing : List (Seats N G) → Type 0
  AllHoldNothing all = (k : ℕ) (seats : Seats N G) → slice_get all k ≡ Some seats → HoldNothing seats
