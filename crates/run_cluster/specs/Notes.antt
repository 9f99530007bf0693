-- What is left of a cluster.
use Rattle.std.specs.Prelude.{◌≡◌, ℕ, ◌+◌, List, length, slice_get, Some}
use Rattle.node_link.specs.declared.body.Body.{Body}
use Rattle.node_link.specs.declared.ends.Tally.{Tally}
use Rattle.run_facts.specs.Inboxes.{control_of, data_of, driver_of}
use Rattle.run_inboxes.specs.declared.ends.Ends.{Ends}
use Rattle.run_inboxes.specs.Closed.{IsClosed}
use Rattle.task_ids.specs.declared.board_name.BoardName as name
use Rattle.race_board.specs.declared.closing.Closed.{Closed}
use Rattle.run_cluster.specs.declared.boards.Seats.{Seats}
use Rattle.run_cluster.specs.declared.notes.NodeNote.{NodeNote}
use Rattle.run_cluster.specs.declared.notes.RunNotes.{RunNotes}
use Rattle.run_cluster.specs.declared.places.Place.{Place}
use Rattle.run_cluster.specs.Closing.{IsClosedBoard}

-- the note of a node that comes after so many, of what belongs to it
abbrev pub note_of : ℕ → Place Closed Tally → NodeNote
note_of before place = record { node = before + 1; closed = place.board; control = place.control; datas = place.datas.items }

-- each node has its note, in their order
pub record AreNoted (places : List (Place Closed Tally)) (notes : List NodeNote) : Type 0 where
  pub count : length notes ≡ length places
  pub each : (k : ℕ) (note : NodeNote) → slice_get notes k ≡ Some note → (place : Place Closed Tally) × (slice_get places k ≡ Some place) × (note ≡ note_of k place)

module _ (workers : ℕ) where
  -- the note of that node, of what its board told and of its inboxes, that of its control worker and those of so many data workers
  pub record IsNoteOf (boards : List Closed) (inboxes : List Tally) (before : ℕ) (note : NodeNote) : Type 0 where
    pub node : note.node ≡ before + 1
    pub board : slice_get boards before ≡ Some note.closed
    pub control : slice_get inboxes (control_of workers (before + 1)) ≡ Some note.control
    pub count : length note.datas ≡ workers
    pub own : (worker : ℕ) (told : Tally) → slice_get note.datas worker ≡ Some told → slice_get inboxes (data_of workers (before + 1) worker) ≡ Some told

  -- each node has its note, in their order, and the driver the last inbox
  pub record AreNotesOf (boards : List Closed) (inboxes : List Tally) (notes : RunNotes) : Type 0 where
    pub count : length notes.nodes.items ≡ length boards
    pub each : (k : ℕ) (note : NodeNote) → slice_get notes.nodes.items k ≡ Some note → IsNoteOf boards inboxes k note
    pub driver : slice_get inboxes (driver_of workers (length boards)) ≡ Some notes.driver

-- this is told of the inbox at that place, which was closed
abbrev pub IsTallyOf : List (Ends Body) → ℕ → Tally → Type 0
IsTallyOf ends place told = (e : Ends Body) → slice_get ends place ≡ Some e → IsClosed ends place e.inbox told

module _ {N : Type 0} {G : name.Ghosts N} (workers : ℕ) (seats : List (Seats N G)) (ends : List (Ends Body)) where
  -- the note of a node, over the seats of its board and all ends
  pub record IsNote (before : ℕ) (note : NodeNote) : Type 0 where
    pub node : note.node ≡ before + 1
    pub board : (s : Seats N G) → slice_get seats before ≡ Some s → IsClosedBoard s note.closed
    pub control : IsTallyOf ends (control_of workers (before + 1)) note.control
    pub count : length note.datas ≡ workers
    pub own : (worker : ℕ) (told : Tally) → slice_get note.datas worker ≡ Some told → IsTallyOf ends (data_of workers (before + 1) worker) told

  -- each node has its note, in their order, and the last inbox is the driver's
  pub record AreNotes (notes : RunNotes) : Type 0 where
    pub count : length notes.nodes.items ≡ length seats
    pub each : (k : ℕ) (note : NodeNote) → slice_get notes.nodes.items k ≡ Some note → IsNote k note
    pub driver : IsTallyOf ends (driver_of workers (length seats)) notes.driver

-- nothing stands on the board of this node
pub record IsClear (node : ℕ) (note : NodeNote) : Type 0 where
  pub here : note.node ≡ node
  pub live : note.closed.live ≡ 0
  pub bans : note.closed.bans ≡ 0

-- there is a note for each node, in their order, and nothing stands on any board
pub record AreClear (nodes : ℕ) (notes : List NodeNote) : Type 0 where
  pub count : length notes ≡ nodes
  pub clear : (k : ℕ) (note : NodeNote) → slice_get notes k ≡ Some note → IsClear (k + 1) note
