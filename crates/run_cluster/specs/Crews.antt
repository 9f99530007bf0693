-- What the workers of a cluster begin with, and what they leave.
use Rattle.std.specs.Prelude.{◌≡◌, ◌<◌, ◌+◌, ℕ, List, length, map, slice_get, Some}
use Rattle.task_ids.specs.declared.board_name.BoardName as name
use Rattle.task_ids.specs.declared.cluster.Cluster.{Cluster}
use Rattle.task_ids.specs.declared.corpus.Corpus.{Corpus}
use Rattle.race_board.specs.declared.board.RaceBoard.{RaceBoard}
use Rattle.race_board.specs.declared.seats.DataSeat.{DataSeat}
use Rattle.node_boards.specs.declared.race_control.RaceControl.{RaceControl}
use Rattle.node_boards.specs.declared.race_data.RaceData.{RaceData}
use Rattle.node_link.specs.declared.body.Body.{Body}
use Rattle.node_link.specs.declared.ends.Sender.{Sender}
use Rattle.node_link.specs.Inbox.{put, got}
use Rattle.node_worker.specs.declared.control.ControlKind.{ControlKind}
use Rattle.node_worker.specs.declared.worker.Rest.{Rest}
use Rattle.node_worker.specs.Job.{Begun}
use Rattle.node_worker.specs.Posts.{for_inbox}
use Rattle.node_worker.specs.Turns.{Turn, letters_given, posts_given}
use Rattle.node_worker.specs.Work.{letters}
use Rattle.node_worker.specs.Control as control
use Rattle.data_worker.specs.Data as own
use Rattle.data_worker.specs.declared.kind.DataKind.{DataKind}
use Rattle.run_facts.specs.Inboxes.{control_of, data_of}
use Rattle.run_inboxes.specs.declared.ends.Ends.{Ends}
use Rattle.run_inboxes.specs.Pairs.{Pairwise, Threewise}
use Rattle.run_cluster.specs.declared.boards.Seats.{Seats}
use Rattle.run_cluster.specs.declared.places.Place.{Place}
use Rattle.run_cluster.specs.Places.{AreDealt, AreWide}
use Rattle.run_cluster.specs.Workers.{IsNewControl, IsNewData, ControlTurns, DataTurns}

-- the worker begins with these ends
pub record BeginsWith {T : Type 0} (ends : Ends Body) (worker : Begun T) : Type 0 where
  pub inbox : worker.inbox ≡ ends.inbox
  pub senders : worker.senders ≡ ends.senders.items

-- the control worker of a node begins with the ends that were dealt to it
abbrev pub ControlBegins : {S T : Type 0} → Place S (Ends Body) → Begun T → Type 0
ControlBegins place worker = BeginsWith place.control worker

-- so do its data workers, each with its own
abbrev pub DatasBegin : {S T : Type 0} → Place S (Ends Body) → List (Begun T) → Type 0
DatasBegin place workers = Pairwise BeginsWith place.datas.items workers

-- The workers of each node, of which so many are data workers, begin with the ends that were dealt to them, and the driver has the last.
pub record AreManned {S C D : Type 0} (workers : ℕ) (seats : List S) (ends : List (Ends Body)) (controls : List (Begun C)) (datas : List (List (Begun D))) (driver : Ends Body) : Type 0 where
  pub places : List (Place S (Ends Body))
  pub dealt : AreDealt seats ends places driver
  pub wide : AreWide workers places
  pub control : Pairwise ControlBegins places controls
  pub own : Pairwise DatasBegin places datas

-- what these turns took and gave is what went through these ends
pub record Mailed (e : Ends Body) (turns : List Turn) : Type 0 where
  pub took : letters (got e.inbox) ≡ letters_given turns
  pub sent : (inbox : ℕ) (s : Sender Body) → slice_get e.senders.items inbox ≡ Some s → put s ≡ for_inbox inbox (posts_given turns)

-- a worker made such turns, and what they took and gave went through these ends
abbrev pub HasMade : (List Turn → Type 0) → Ends Body → Type 0
HasMade Made e = (turns : List Turn) × Made turns × Mailed e turns

module _ {N : Type 0} {B : name.Ghosts N} (cluster : Cluster) (corpus : Corpus) (workers : ℕ) (boards : List (RaceBoard N)) (seats : List (Seats N B)) (ends : List (Ends Body)) where
  -- what a data worker of a node left, after what it did over the node's board
  pub record HasWorked (board : RaceBoard N) (left : Seats N B) (before worker : ℕ) : Type 0 where
    pub seat : DataSeat N B
    pub seat_at : slice_get left.datas.items worker ≡ Some seat
    pub own : Ends Body
    pub own_at : slice_get ends (data_of workers (before + 1) worker) ≡ Some own
    pub own_made : HasMade (DataTurns cluster corpus workers board worker seat) own

  -- what the workers of a node left, after what they did
  pub record HaveWorked (before : ℕ) : Type 0 where
    pub board : RaceBoard N
    pub board_at : slice_get boards before ≡ Some board
    pub left : Seats N B
    pub left_at : slice_get seats before ≡ Some left
    pub control : Ends Body
    pub control_at : slice_get ends (control_of workers (before + 1)) ≡ Some control
    pub control_made : HasMade (ControlTurns cluster workers board left.control) control
    pub count : length left.datas.items ≡ workers
    pub datas : (worker : ℕ) → worker < workers → HasWorked board left before worker

  -- so did those of each node
  abbrev pub AllWorked : Type 0
  AllWorked = (before : ℕ) → before < length boards → HaveWorked before

-- the ends that a worker left
abbrev pub ends_left : {N T : Type 0} → Rest N T → Ends Body
ends_left rest = record { inbox = rest.inbox; senders = rest.senders }

module _ {W N G : Type 0} {B : name.Ghosts N} where
  -- the worker begins over this board
  abbrev pub IsControlOn : Cluster → ℕ → RaceBoard N → Begun (ControlKind W (RaceControl N B) G) → Type 0
  IsControlOn cluster workers board worker = IsNewControl cluster workers board (control.seen worker.worker.state)

  -- so does the data worker of that number
  abbrev pub IsDataOn : Cluster → Corpus → ℕ → RaceBoard N → ℕ → Begun (DataKind W (RaceData N B) G) → Type 0
  IsDataOn cluster corpus workers board number worker = IsNewData cluster corpus workers board number (own.seen worker.worker.state)

  -- so do the data workers of a node, so many, in the order of their numbers
  pub record AreDatasOn (cluster : Cluster) (corpus : Corpus) (workers : ℕ) (board : RaceBoard N) (datas : List (Begun (DataKind W (RaceData N B) G))) : Type 0 where
    pub count : length datas ≡ workers
    pub each : (number : ℕ) (worker : Begun (DataKind W (RaceData N B) G)) → slice_get datas number ≡ Some worker → IsDataOn cluster corpus workers board number worker

  -- the seat that a data worker left
  abbrev pub seat_left : Rest N (DataKind W (RaceData N B) G) → DataSeat N B
  seat_left own = own.worker.state.board.seat

  -- what the workers of a node left: the seats of its board, and their ends
  pub record IsLeftBy (control : Rest N (ControlKind W (RaceControl N B) G)) (datas : List (Rest N (DataKind W (RaceData N B) G))) (place : Place (Seats N B) (Ends Body)) : Type 0 where
    pub control_seat : place.board.control ≡ control.worker.state.board.seat
    pub seats : place.board.datas.items ≡ map seat_left datas
    pub control_ends : place.control ≡ ends_left control
    pub ends : place.datas.items ≡ map ends_left datas

  -- the same of each node, with the driver's ends at last
  pub record AreLeft (controls : List (Rest N (ControlKind W (RaceControl N B) G))) (datas : List (List (Rest N (DataKind W (RaceData N B) G)))) (seats : List (Seats N B)) (ends : List (Ends Body)) (driver : Ends Body) : Type 0 where
    pub places : List (Place (Seats N B) (Ends Body))
    pub left : Threewise IsLeftBy controls datas places
    pub dealt : AreDealt seats ends places driver
