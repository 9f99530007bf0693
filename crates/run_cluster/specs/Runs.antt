-- A whole run of a cluster: the turns of its workers, and what went through their inboxes.
use Rattle.std.specs.Prelude.{◌≡◌, ◌<◌, ℕ, ◌+◌, List, length, slice_get, Some}
use Rattle.task_ids.specs.declared.board_name.BoardName as name
use Rattle.task_ids.specs.declared.cluster.Cluster.{Cluster}
use Rattle.task_ids.specs.declared.corpus.Corpus.{Corpus}
use Rattle.race_board.specs.declared.board.RaceBoard.{RaceBoard}
use Rattle.race_board.specs.declared.seats.DataSeat.{DataSeat}
use Rattle.race_board.specs.Seats.{board_size}
use Rattle.node_link.specs.declared.ends.Tally.{Tally}
use Rattle.run_facts.specs.Inboxes.{control_of, data_of, driver_of}
use Rattle.run_cluster.specs.declared.boards.Seats.{Seats}
use Rattle.run_cluster.specs.declared.notes.NodeNote.{NodeNote}
use Rattle.run_cluster.specs.Closing.{IsClosedBoard}
use Rattle.run_cluster.specs.Mail.{Mail, IsInbox, IsWorker}
use Rattle.run_cluster.specs.Workers.{ControlTurns, DataTurns}

module _ (N : Type 0) (B : name.Ghosts N) (cluster : Cluster) (corpus : Corpus) (workers : ℕ) where
  -- The run of a data worker of a node: its seat of the node's board, and what is told of its inbox, in which and out of which it worked.
  pub record IsDataRun (all : List Mail) (board : RaceBoard N) (seats : Seats N B) (before : ℕ) (note : NodeNote) (worker : ℕ) : Type 0 where
    pub seat : DataSeat N B
    pub seat_is : slice_get seats.datas.items worker ≡ Some seat
    pub told : Tally
    pub told_is : slice_get note.datas worker ≡ Some told
    pub works : IsWorker all (data_of workers (before + 1) worker) (DataTurns cluster corpus workers board worker seat) told

  -- The run of a node: its control worker and its data workers worked over one board, which was closed with all seats that they left, and of which the note tells.
  pub record IsNodeRun (all : List Mail) (before : ℕ) (note : NodeNote) : Type 0 where
    pub board : RaceBoard N
    pub node : board.node ≡ before + 1
    pub size : board_size board ≡ record { slots = cluster.slots; bans = 1024; seats = workers }
    pub seats : Seats N B
    pub closed : IsClosedBoard seats note.closed
    pub control : IsWorker all (control_of workers (before + 1)) (ControlTurns cluster workers board seats.control) note.control
    pub count : (length seats.datas.items ≡ workers) × (length note.datas ≡ workers)
    pub own : (worker : ℕ) → worker < workers → IsDataRun all board seats before note worker

  -- There is the mail of each worker, for each node that of its control worker and then those of its data workers, and the driver's last. Each node has run so, and of the driver's inbox this is told.
  pub record IsRunOf (nodes : List NodeNote) (driver : Tally) : Type 0 where
    pub mail : List Mail
    pub count : length mail ≡ driver_of workers cluster.nodes + 1
    pub each : (k : ℕ) (note : NodeNote) → slice_get nodes k ≡ Some note → IsNodeRun mail k note
    pub last : IsInbox mail (driver_of workers cluster.nodes) driver
