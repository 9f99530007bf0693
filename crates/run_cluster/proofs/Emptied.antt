-- A worker that drained leaves the race board with which it began, and holds nothing of it.
use Rattle.std.proofs.Common.{◌≡◌, ℕ, List, Option, subst}
use Rattle.task_ids.specs.declared.board_name.BoardName as name
use Rattle.race_board.specs.Checks.{IsClear}
use Rattle.race_board.specs.Board.{tickets_out}
use Rattle.race_board.specs.Closing.{bans_out}
use Rattle.race_board.specs.Seats.{seat_view, control_view}
use Rattle.node_boards.specs.Race.{unused}
use Rattle.node_boards.specs.declared.race_control.RaceControl.{RaceControl}
use Rattle.node_boards.specs.declared.race_data.RaceData.{RaceData}
use Rattle.live_tasks.specs.declared.entry.Entry.{Entry}
use Rattle.live_tasks.specs.Ties.{HasParent}
use Rattle.node_link.specs.declared.body.Body.{Body}
use Rattle.node_worker.specs.declared.post.Post.{Post}
use Rattle.node_worker.specs.declared.worker.Rest.{Rest}
use Rattle.node_worker.specs.Turns.{Given}
use Rattle.node_worker.specs.Control as control
use Rattle.node_worker.specs.Job.{Begun}
use Rattle.data_worker.specs.Data as own
use Rattle.run_threads.specs.Jobs.{Drained}
use Rattle.run_cluster.specs.Workers.{ControlRest, DataRest, OwnBans, OwnTickets}
use Rattle.run_cluster.proofs.ControlStays as control_stays
use Rattle.run_cluster.proofs.DataStays as data_stays
use Rattle.run_cluster.proofs.Drained.{drained_keeps}
use Rattle.run_cluster.proofs.NothingOut.{no_ban_out, no_ticket_out}

module _ {M T : Type 0} {G : name.Ghosts M} where
  -- a control worker, of which this is seen
  module _ (seen : T → control.Seen (RaceControl M G)) where
    abbrev Did : T → Given → List (Post Body) → T → Type 0
    Did v given posts w = control.Does ControlRest (seen v) given posts (seen w)

    pub control_emptied : {N : Type 0} (fits : T → Type 0) (begun : Begun T) (rest : Rest N T) → Drained Did (λ v. control.Rests OwnBans (seen v)) fits begun rest
        → ((seen rest.worker).board.board.now ≡ (seen begun.worker).board.board.now) × (bans_out (control_view (seen rest.worker).board.seat) ≡ 0)
    control_emptied fits begun rest d = (
      drained_keeps Did (λ v. (seen v).board.board.now) (λ v given posts w done. control_stays.does_keeps ControlRest (λ b. b.board.now) (λ b c call r. r.0) (seen v) given posts (seen w) done)
          (λ v. control.Rests OwnBans (seen v)) fits begun rest d,
      no_ban_out (control_view (seen rest.worker).board.seat) d.rests.clear,
    )

  -- a data worker
  module _ (seen : T → own.Seen (RaceData M G)) (allowed : ℕ → Type 0) where
    abbrev DidOwn : T → Given → List (Post Body) → T → Type 0
    DidOwn v given posts w = own.Does DataRest (seen v) given posts (seen w)

    abbrev IsFit : T → Type 0
    IsFit v = own.Fits (λ b. b.board.now.node) OwnTickets (λ b. unused (seat_view b.seat)) (λ b. IsClear (seat_view b.seat)) allowed (seen v).core (seen v).board

    -- each ticket is that of a live task
    no_ticket : (v : T) → own.Rests (seen v) → IsFit v → (n p : ℕ) → ¬ OwnTickets (seen v).board n p
    no_ticket v rests fits n p has = subst (λ (o : Option Entry). HasParent p o) (rests.none n) ((fits.together.seated.tickets n p).0 has)

    pub data_emptied : {N : Type 0} (fits : T → Type 0) (fit : (v : T) → fits v → IsFit v) (begun : Begun T) (rest : Rest N T) → Drained DidOwn (λ v. own.Rests (seen v)) fits begun rest
        → ((seen rest.worker).board.board.now ≡ (seen begun.worker).board.board.now) × (tickets_out (seat_view (seen rest.worker).board.seat) ≡ 0)
    data_emptied fits fit begun rest d = (
      drained_keeps DidOwn (λ v. (seen v).board.board.now) (λ v given posts w done. data_stays.does_keeps DataRest (λ b. b.board.now) (λ b c call r. r.0) (seen v) given posts (seen w) done)
          (λ v. own.Rests (seen v)) fits begun rest d,
      no_ticket_out (seat_view (seen rest.worker).board.seat) (no_ticket rest.worker d.rests (fit rest.worker d.belongs)),
    )
