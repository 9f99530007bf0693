-- The workers of a node over its race board: as they begin, and what they do until they are at rest.
use Rattle.std.specs.Prelude.{◌≡◌, ℕ, false, List, None}
use Rattle.std.specs.FinMap as finite
use Rattle.task_ids.specs.declared.board_name.BoardName as name
use Rattle.task_ids.specs.declared.cluster.Cluster.{Cluster}
use Rattle.task_ids.specs.declared.corpus.Corpus.{Corpus}
use Rattle.data_pool.specs.Workers.{shards_of, quota_of}
use Rattle.race_board.specs.declared.board.RaceBoard.{RaceBoard}
use Rattle.race_board.specs.declared.seats.ControlSeat.{ControlSeat}
use Rattle.race_board.specs.declared.seats.DataSeat.{DataSeat}
use Rattle.race_board.specs.Board.{newcomer}
use Rattle.race_board.specs.Seats.{seat_view, control_view, board_size, IsNew}
use Rattle.node_boards.specs.Calls.{DataCall, ControlCall}
use Rattle.node_boards.specs.Race.{HoldsBan, HoldsTicket, DataRests, ControlRests}
use Rattle.node_boards.specs.declared.race_control.RaceControl.{RaceControl}
use Rattle.node_boards.specs.declared.race_data.RaceData.{RaceData}
use Rattle.held_shards.specs.Held.{HasLines}
use Rattle.control_worker.specs.View.{new_view}
use Rattle.data_core.specs.declared.state.DataCore.{DataCore}
use Rattle.data_core.specs.Cores.{IsNewDataCore, IsPoolOf}
use Rattle.node_worker.specs.Turns.{Turn, Leads}
use Rattle.node_worker.specs.Leaving.{NobodyLeft}
use Rattle.node_worker.specs.Control as control
use Rattle.data_worker.specs.Data as own

-- the shards of this worker of the node are held, with their lines of the corpus, and no other
pub record HoldsShards (cluster : Cluster) (corpus : Corpus) (node worker : ℕ) (core : DataCore) : Type 0 where
  pub numbers : core.shards.numbers.items ≡ shards_of core.pool node worker
  pub lines : HasLines corpus.lines cluster.shards core.shards

module _ {N : Type 0} {B : name.Ghosts N} where
  -- what a call on a race board rests on: the board stays, and the seat goes by its own steps
  abbrev pub ControlRest : RaceControl N B → RaceControl N B → ControlCall → Type 0
  ControlRest b c call = (c.board.now ≡ b.board.now) × ControlRests (board_size b.board.now) (control_view b.seat) (control_view c.seat) call

  abbrev pub DataRest : RaceData N B → RaceData N B → DataCall → Type 0
  DataRest b c call = (c.board.now ≡ b.board.now) × DataRests (board_size b.board.now) (seat_view b.seat) (seat_view c.seat) call

  abbrev pub OwnBans : RaceControl N B → ℕ → ℕ → ℕ → Type 0
  OwnBans b = HoldsBan (control_view b.seat)

  abbrev pub OwnTickets : RaceData N B → ℕ → ℕ → Type 0
  OwnTickets b = HoldsTicket (seat_view b.seat)

  module _ (cluster : Cluster) (workers : ℕ) where
    -- a control worker that has done nothing, with a new seat of this board
    pub record IsNewControl (board : RaceBoard N) (v : control.Seen (RaceControl N B)) : Type 0 where
      pub over : v.board.board.now ≡ board
      pub seat : control_view v.board.seat ≡ newcomer (board_size board) 1 0
      pub core : v.core ≡ new_view board.node workers cluster.slots
      pub nodes : v.nodes ≡ cluster.nodes
      pub nobody_left : NobodyLeft v.left

    -- the turns of a control worker over this board, from its beginning on; at last it is at rest, and leaves this seat
    pub record ControlTurns (board : RaceBoard N) (seat : ControlSeat N B) (turns : List Turn) : Type 0 where
      pub first : control.Seen (RaceControl N B)
      pub last : control.Seen (RaceControl N B)
      pub new : IsNewControl board first
      pub leads : Leads (control.Does ControlRest) first turns last
      pub rests : control.Rests OwnBans last
      pub leaves : last.board.seat ≡ seat

  module _ (cluster : Cluster) (corpus : Corpus) (workers : ℕ) where
    -- a data worker of that number that has done nothing, with a new seat of this board; it holds its shards, and has its share of the slots
    pub record IsNewData (board : RaceBoard N) (worker : ℕ) (v : own.Seen (RaceData N B)) : Type 0 where
      pub over : v.board.board.now ≡ board
      pub seat : IsNew board v.board.seat
      pub core : IsNewDataCore board.node v.core
      pub number : v.core.worker ≡ worker
      pub pool : IsPoolOf cluster workers v.core.pool
      pub shards : HoldsShards cluster corpus board.node worker v.core
      pub contexts : v.core.contexts ≡ finite.empty
      pub begins : (v.core.clock.ms ≡ 0) × (v.core.clock.draining ≡ false) × (v.core.leaving ≡ false)
      pub cluster_is : v.core.cluster ≡ cluster
      pub quota : v.core.live.quota ≡ quota_of cluster.slots workers worker
      pub last : v.last ≡ None
      pub unsaid : v.has_said ≡ false

    -- the turns and steps of a data worker over this board, from its beginning on; at last it is at rest, and leaves this seat
    pub record DataTurns (board : RaceBoard N) (worker : ℕ) (seat : DataSeat N B) (turns : List Turn) : Type 0 where
      pub first : own.Seen (RaceData N B)
      pub last : own.Seen (RaceData N B)
      pub new : IsNewData board worker first
      pub leads : Leads (own.Does DataRest) first turns last
      pub rests : own.Rests last
      pub leaves : last.board.seat ≡ seat
