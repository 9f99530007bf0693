-- The whole run of a cluster, by what its workers did and what its notes tell.
use Rattle.std.proofs.Common.{◌≡◌, ℕ, ◌+◌, ◌<◌, List, length, Some, sym, ap, ◌∙◌, subst, arith}
use Rattle.std.specs.Prelude.{slice_get}
use Rattle.std.proofs.lemmas.Option.{slice_get_within}
use Rattle.std.proofs.lemmas.List.{length-map}
use Rattle.task_ids.specs.declared.board_name.BoardName as name
use Rattle.task_ids.specs.declared.cluster.Cluster.{Cluster}
use Rattle.task_ids.specs.declared.corpus.Corpus.{Corpus}
use Rattle.race_board.specs.declared.board.RaceBoard.{RaceBoard}
use Rattle.node_link.specs.declared.body.Body.{Body}
use Rattle.node_link.specs.declared.ends.Tally.{Tally}
use Rattle.node_worker.specs.Turns.{Turn}
use Rattle.run_facts.specs.Inboxes.{control_of, data_of, driver_of}
use Rattle.run_inboxes.specs.declared.ends.Ends.{Ends}
use Rattle.run_inboxes.specs.Closed.{IsClosed}
use Rattle.run_inboxes.specs.Ends.{AreLinked}
use Rattle.run_inboxes.proofs.Rows.{stands}
use Rattle.run_cluster.specs.declared.boards.Seats.{Seats}
use Rattle.run_cluster.specs.declared.notes.NodeNote.{NodeNote}
use Rattle.run_cluster.specs.declared.notes.RunNotes.{RunNotes}
use Rattle.run_cluster.specs.Boards.{AreNewBoards}
use Rattle.run_cluster.specs.Crews.{HasMade, AllWorked}
use Rattle.run_cluster.specs.Mail.{IsWorker}
use Rattle.run_cluster.specs.Notes.{IsTallyOf, AreNotes}
use Rattle.run_cluster.specs.Runs.{IsDataRun, IsNodeRun, IsRunOf}
use Rattle.run_cluster.proofs.Mailing.{mail_of, all_mail, inbox_of, turns_of}

module _ (ends : List (Ends Body)) (linked : AreLinked ends) where
  worker_of : (k : ℕ) (e : Ends Body) (Made : List Turn → Type 0) (told : Tally) → slice_get ends k ≡ Some e → HasMade Made e → IsTallyOf ends k told → IsWorker (all_mail ends) k Made told
  worker_of k e Made told at made tally = record {
    turns = made.0;
    made = made.1;
    are = turns_of ends linked k e made.0 at made.2;
    inbox = inbox_of ends linked k e told at (tally e at);
  }

  module _ {N : Type 0} {B : name.Ghosts N} (cluster : Cluster) (corpus : Corpus) (workers : ℕ) (boards : List (RaceBoard N)) (dealt left : List (Seats N B)) where
    pub run_of : (notes : RunNotes) → AreNewBoards cluster workers boards dealt → length ends ≡ driver_of workers (length boards) + 1 → length left ≡ length boards → AllWorked cluster corpus workers boards left ends → AreNotes workers left ends notes
        → IsRunOf N B cluster corpus workers notes.nodes.items notes.driver
    run_of notes new many long worked are = record {
      mail = all_mail ends;
      count = length-map ends mail_of ∙ whole;
      each = each;
      last = (
          let e = stands ends (driver_of workers cluster.nodes) (omega (arith, whole)) in
          let told = are.driver e.0 (subst (λ n. slice_get ends (driver_of workers n) ≡ Some e.0) (sym (long ∙ new.boards_count)) e.1) in
          inbox_of ends linked (driver_of workers cluster.nodes) e.0 notes.driver e.1 (subst (λ n. IsClosed ends (driver_of workers n) e.0.inbox notes.driver) (long ∙ new.boards_count) told));
    }
      where
        whole : length ends ≡ driver_of workers cluster.nodes + 1
        whole = many ∙ ap (λ n. driver_of workers n + 1) new.boards_count

        each : (k : ℕ) (note : NodeNote) → slice_get notes.nodes.items k ≡ Some note → IsNodeRun N B cluster corpus workers (all_mail ends) k note
        each k note at =
            let low = slice_get_within notes.nodes.items k note at in
            let count = are.count in
            let h = worked k (omega arith) in
            let one = are.each k note at in
            let boards_count = new.boards_count in
            let seats_count = new.seats_count in
            let within = slice_get_within boards k h.board h.board_at in
            let s = stands dealt k (omega arith) in
            let b = new.each k h.board s.0 h.board_at s.1 in
            let own : (worker : ℕ) → worker < workers → IsDataRun N B cluster corpus workers (all_mail ends) h.board h.left k note worker = λ worker below.
            (let d = h.datas worker below in
            let wide = one.count in
            let told = stands note.datas worker (omega arith) in
            record {
              seat = d.seat;
              seat_is = d.seat_at;
              told = told.0;
              told_is = told.1;
              works = worker_of (data_of workers (k + 1) worker) d.own _ told.0 d.own_at d.own_made (one.own worker told.0 told.1);
            }) in
            record {
              board = h.board;
              node = b.here;
              size = b.size;
              seats = h.left;
              closed = one.board h.left h.left_at;
              control = worker_of (control_of workers (k + 1)) h.control _ note.control h.control_at h.control_made one.control;
              count = (h.count, one.count);
              own = own;
            }
