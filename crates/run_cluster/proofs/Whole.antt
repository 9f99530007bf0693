-- The notes of a cluster whose seats hold nothing.
use Rattle.std.proofs.Common.{◌≡◌, ℕ, ◌+◌, List, length, Some, ap, ◌∙◌, arith}
use Rattle.std.specs.Prelude.{slice_get}
use Rattle.std.proofs.lemmas.Option.{slice_get_within}
use Rattle.task_ids.specs.declared.board_name.BoardName as name
use Rattle.task_ids.specs.declared.cluster.Cluster.{Cluster}
use Rattle.race_board.specs.declared.board.RaceBoard.{RaceBoard}
use Rattle.race_board.specs.declared.views.Size.{Size}
use Rattle.race_board.specs.Seats.{board_size}
use Rattle.node_link.specs.declared.body.Body.{Body}
use Rattle.run_inboxes.specs.declared.ends.Ends.{Ends}
use Rattle.run_inboxes.proofs.Rows.{stands}
use Rattle.run_cluster.specs.declared.boards.Seats.{Seats}
use Rattle.run_cluster.specs.declared.notes.NodeNote.{NodeNote}
use Rattle.run_cluster.specs.declared.notes.RunNotes.{RunNotes}
use Rattle.run_cluster.specs.Boards.{AreNewBoards, AllHoldNothing}
use Rattle.run_cluster.specs.Notes.{AreNotes, IsClear, AreClear}

module _ {N : Type 0} {G : name.Ghosts N} where
  -- each new board has a seat for each data worker
  pub seats_of : (cluster : Cluster) (workers : ℕ) (boards : List (RaceBoard N)) (seats : List (Seats N G)) → AreNewBoards cluster workers boards seats → (k : ℕ) (b : RaceBoard N) → slice_get boards k ≡ Some b → (board_size b).seats ≡ workers
  seats_of cluster workers boards seats new k b at =
      let low = slice_get_within boards k b at in
      let m = new.boards_count in
      let n = new.seats_count in
      let s = stands seats k (omega arith) in
      ap (λ (z : Size). z.seats) (new.each k b s.0 at s.1).size

  pub all_clear : (nodes workers : ℕ) (seats : List (Seats N G)) (ends : List (Ends Body)) (notes : RunNotes) → length seats ≡ nodes → AllHoldNothing seats → AreNotes workers seats ends notes → AreClear nodes notes.nodes.items
  all_clear nodes workers seats ends notes long none are = record { count = are.count ∙ long; clear = clear }
    where
      clear : (k : ℕ) (note : NodeNote) → slice_get notes.nodes.items k ≡ Some note → IsClear (k + 1) note
      clear k note at =
          let one = are.each k note at in
          let low = slice_get_within notes.nodes.items k note at in
          let count = are.count in
          let s = stands seats k (omega arith) in
          let closed = one.board s.0 s.1 in
          let held = none k s.0 s.1 in
          record { here = one.node; live = closed.live ∙ held.tickets; bans = closed.bans ∙ held.bans }
