-- What the workers of a cluster did, by what they began with and what they left.
use Rattle.std.proofs.Common.{◌≡◌, ℕ, ◌+◌, ◌<◌, List, [], ◌∷◌, ◌++◌, length, Some, refl, sym, ap, ◌∙◌, subst, append-nil, arith}
use Rattle.std.specs.Prelude.{map, slice_get}
use Rattle.std.proofs.lemmas.Option.{slice_get_within}
use Rattle.std.proofs.lemmas.List.{length-map}
use Rattle.task_ids.specs.declared.board_name.BoardName as name
use Rattle.task_ids.specs.declared.cluster.Cluster.{Cluster}
use Rattle.task_ids.specs.declared.corpus.Corpus.{Corpus}
use Rattle.race_board.specs.declared.board.RaceBoard.{RaceBoard}
use Rattle.race_board.specs.declared.seats.ControlSeat.{ControlSeat}
use Rattle.node_boards.specs.declared.race_control.RaceControl.{RaceControl}
use Rattle.node_boards.specs.declared.race_data.RaceData.{RaceData}
use Rattle.node_link.specs.declared.body.Body.{Body}
use Rattle.node_link.specs.declared.ends.Sender.{Sender}
use Rattle.node_link.specs.Inbox.{put, got}
use Rattle.node_worker.specs.declared.control.ControlKind.{ControlKind}
use Rattle.node_worker.specs.declared.post.Post.{Post}
use Rattle.node_worker.specs.declared.worker.Rest.{Rest}
use Rattle.node_worker.specs.Control as control
use Rattle.node_worker.specs.Job.{Begun, begins, ends}
use Rattle.node_worker.specs.Posts.{for_inbox, SentBut}
use Rattle.node_worker.specs.Turns.{Given, Turn, letters_given, posts_given, Leads}
use Rattle.node_worker.specs.Work.{letters, Made, Did}
use Rattle.data_worker.specs.declared.kind.DataKind.{DataKind}
use Rattle.data_worker.specs.Data as own
use Rattle.run_facts.specs.Inboxes.{control_of, data_of}
use Rattle.run_inboxes.specs.declared.ends.Ends.{Ends}
use Rattle.run_inboxes.specs.Pairs.{Pairwise}
use Rattle.run_inboxes.specs.Ends.{AreNew}
use Rattle.run_inboxes.proofs.Pairs.{pairs_get, pairs_left, pairs_right, pairs_length}
use Rattle.run_inboxes.proofs.Rows.{stands}
use Rattle.run_threads.specs.Jobs.{Drained}
use Rattle.run_cluster.specs.declared.boards.Seats.{Seats}
use Rattle.run_cluster.specs.declared.places.Place.{Place}
use Rattle.run_cluster.specs.Crews.{BeginsWith, ControlBegins, DatasBegin, AreManned, IsControlOn, IsDataOn, AreDatasOn, Mailed, HasMade, HasWorked, AllWorked, seat_left, ends_left, IsLeftBy, AreLeft}
use Rattle.run_cluster.specs.Places.{AreWide}
use Rattle.run_cluster.specs.Workers.{ControlRest, DataRest, ControlTurns, DataTurns}
use Rattle.run_cluster.proofs.Dealing.{control_at, data_at}
use Rattle.run_cluster.proofs.Leaving.{ControlDid, ControlAtRest, DataDid, DataAtRest}
use Rattle.run_cluster.proofs.Mapping.{mapped_at}
use Rattle.run_cluster.proofs.Through.{threes_first, threes_third}

-- turns lead from what is seen of a worker to what is seen of it
leads_seen : {T S : Type 0} (seen : T → S) (does : S → Given → List (Post Body) → S → Type 0) (v : T) (turns : List Turn) (w : T) → Leads (λ a given posts b. does (seen a) given posts (seen b)) v turns w → Leads does (seen v) turns (seen w)
leads_seen seen does v [] w same = ap seen same
leads_seen seen does v (t ∷ turns) w (u, goes, done, more) = (seen u, goes, done, leads_seen seen does u turns w more)

-- what went through new ends is what the turns took and gave
module _ {N T : Type 0} (did : T → Given → List (Post Body) → T → Type 0) {capacity : ℕ} (e : Ends Body) (w : Begun T) (r : Rest N T) (turns : List Turn)
    (new : AreNew capacity e) (began : BeginsWith e w) (made : Made did (begins w) turns [] (ends r)) where
  took_all : letters (got r.inbox) ≡ letters_given turns
  took_all =
      let none : letters (got w.inbox) ≡ [] = ap (λ i. letters (got i)) began.inbox ∙ ap letters new.taken in
      made.took ∙ ap (λ l. l ++ (letters_given turns ++ [])) none ∙ append-nil (letters_given turns)

  sent_all : (inbox : ℕ) (t : Sender Body) → slice_get r.senders.items inbox ≡ Some t → put t ≡ for_inbox inbox (posts_given turns)
  unfolding SentBut
  sent_all inbox t at =
      let all = made.sent in
      let long = all.0 in
      let low = slice_get_within r.senders.items inbox t at in
      let s = stands w.senders inbox (omega arith) in
      let fresh = new.sent inbox s.0 (ap (λ l. slice_get l inbox) (sym began.senders) ∙ s.1) in
      sym (append-nil (put t)) ∙ (all.1 inbox s.0 t s.1 at).1 ∙ ap (λ l. l ++ for_inbox inbox (posts_given turns)) fresh

  mailed : Mailed (record { inbox = r.inbox; senders = r.senders }) turns
  mailed = record { took = took_all; sent = sent_all }

module _ {W N G : Type 0} {B : name.Ghosts N} (cluster : Cluster) (corpus : Corpus) (workers : ℕ) {capacity : ℕ} where
  control_made : (fits : ControlKind W (RaceControl N B) G → Type 0) (b : RaceBoard N) (e : Ends Body) (w : Begun (ControlKind W (RaceControl N B) G)) (r : Rest N (ControlKind W (RaceControl N B) G))
      → AreNew capacity e → BeginsWith e w → IsControlOn cluster workers b w → Drained ControlDid ControlAtRest fits w r → HasMade (ControlTurns cluster workers b r.worker.state.board.seat) (ends_left r)
  unfolding Did
  control_made fits b e w r new began on d = (
    d.did_all.0,
    record {
      first = control.seen w.worker.state;
      last = control.seen r.worker.state;
      new = on;
      leads = leads_seen (λ (v : ControlKind W (RaceControl N B) G). control.seen v.state) (control.Does ControlRest) w.worker d.did_all.0 r.worker d.did_all.1.leads;
      rests = d.rests;
      leaves = refl;
    },
    mailed ControlDid e w r d.did_all.0 new began d.did_all.1,
  )

  data_made : (fits : DataKind W (RaceData N B) G → Type 0) (b : RaceBoard N) (number : ℕ) (e : Ends Body) (w : Begun (DataKind W (RaceData N B) G)) (r : Rest N (DataKind W (RaceData N B) G))
      → AreNew capacity e → BeginsWith e w → IsDataOn cluster corpus workers b number w → Drained DataDid DataAtRest fits w r → HasMade (DataTurns cluster corpus workers b number (seat_left r)) (ends_left r)
  unfolding Did
  data_made fits b number e w r new began on d = (
    d.did_all.0,
    record {
      first = own.seen w.worker.state;
      last = own.seen r.worker.state;
      new = on;
      leads = leads_seen (λ (v : DataKind W (RaceData N B) G). own.seen v.state) (own.Does DataRest) w.worker d.did_all.0 r.worker d.did_all.1.leads;
      rests = d.rests;
      leaves = refl;
    },
    mailed DataDid e w r d.did_all.0 new began d.did_all.1,
  )

  module _ (data_fits : DataKind W (RaceData N B) G → Type 0) (boards : List (RaceBoard N)) (dealt left : List (Seats N B)) (all back : List (Ends Body)) (controls : List (Begun (ControlKind W (RaceControl N B) G))) (datas : List (List (Begun (DataKind W (RaceData N B) G)))) (driver last : Ends Body)
      (cs : List (Rest N (ControlKind W (RaceControl N B) G))) (ds : List (List (Rest N (DataKind W (RaceData N B) G))))
      (new : (k : ℕ) (e : Ends Body) → slice_get all k ≡ Some e → AreNew capacity e) (manned : AreManned workers dealt all controls datas driver)
      (own_on : Pairwise (AreDatasOn cluster corpus workers) boards datas) (own_drained : Pairwise (Pairwise (Drained DataDid DataAtRest data_fits)) datas ds)
      (are : AreLeft cs ds left back last) where
    -- what each node left is of so many data workers
    wide : AreWide workers are.places
    wide k p at =
        let t = threes_third IsLeftBy cs ds are.places are.left k p at in
        let v = pairs_left (Pairwise (Drained DataDid DataAtRest data_fits)) datas ds own_drained k t.1 t.3 in
        let b = pairs_left (AreDatasOn cluster corpus workers) boards datas own_on k v.0 v.1 in
        ap length t.4.ends ∙ length-map t.1 ends_left ∙ pairs_length (Drained DataDid DataAtRest data_fits) v.0 t.1 v.2 ∙ b.2.count

    -- a data worker of a node has worked
    has_worked : (k : ℕ) (b : RaceBoard N) (d : Place (Seats N B) (Ends Body)) (p : Place (Seats N B) (Ends Body)) (es : List (Rest N (DataKind W (RaceData N B) G))) (vs : List (Begun (DataKind W (RaceData N B) G)))
        → slice_get manned.places k ≡ Some d → slice_get are.places k ≡ Some p → (p.board.datas.items ≡ map seat_left es) → (p.datas.items ≡ map ends_left es)
        → Pairwise BeginsWith d.datas.items vs → AreDatasOn cluster corpus workers b vs → Pairwise (Drained DataDid DataAtRest data_fits) vs es
        → (worker : ℕ) → worker < workers → HasWorked cluster corpus workers boards left back b p.board k worker
    has_worked k b d p es vs d_at p_at seats_are ends_are began on drained worker low =
        let count = on.count in
        let v = stands vs worker (omega arith) in
        let r = pairs_right (Drained DataDid DataAtRest data_fits) vs es drained worker v.0 v.1 in
        let e = pairs_left BeginsWith d.datas.items vs began worker v.0 v.1 in
        let fresh = new (data_of workers (k + 1) worker) e.0
        (ap (λ l. slice_get l (data_of workers (k + 1) worker)) (sym manned.dealt.inboxes_are) ∙ data_at workers manned.places (driver ∷ []) k d manned.wide d_at worker e.0 e.1) in
        record {
          seat = seat_left r.0;
          seat_at = ap (λ l. slice_get l worker) seats_are ∙ mapped_at seat_left es worker r.0 r.1;
          own = ends_left r.0;
          own_at = ap (λ l. slice_get l (data_of workers (k + 1) worker)) (sym are.dealt.inboxes_are)
              ∙ data_at workers are.places (last ∷ []) k p wide p_at worker (ends_left r.0) (ap (λ l. slice_get l worker) ends_are ∙ mapped_at ends_left es worker r.0 r.1);
          own_made = data_made data_fits b worker e.0 v.0 r.0 fresh e.2 (on.each worker v.0 v.1) r.2;
        }

    -- each node's workers have worked
    pub all_worked : (control_fits : ControlKind W (RaceControl N B) G → Type 0) → Pairwise (IsControlOn cluster workers) boards controls → Pairwise (Drained ControlDid ControlAtRest control_fits) controls cs → AllWorked cluster corpus workers boards left back
    all_worked control_fits on drained k low =
        let b = stands boards k low in
        let w = pairs_right (IsControlOn cluster workers) boards controls on k b.0 b.1 in
        let c = pairs_right (Drained ControlDid ControlAtRest control_fits) controls cs drained k w.0 w.1 in
        let t = threes_first IsLeftBy cs ds are.places are.left k c.0 c.1 in
        let v = pairs_left (Pairwise (Drained DataDid DataAtRest data_fits)) datas ds own_drained k t.0 t.2 in
        let datas_on = pairs_get (AreDatasOn cluster corpus workers) boards datas own_on k b.0 v.0 b.1 v.1 in
        let d = pairs_left ControlBegins manned.places controls manned.control k w.0 w.1 in
        let began = pairs_get DatasBegin manned.places datas manned.own k d.0 v.0 d.1 v.1 in
        let fresh = new (control_of workers (k + 1)) d.0.control
        (ap (λ l. slice_get l (control_of workers (k + 1))) (sym manned.dealt.inboxes_are) ∙ control_at workers manned.places (driver ∷ []) k d.0 manned.wide d.1) in
        let p = t.1 in
        let by = t.4 in
        record {
          board = b.0;
          board_at = b.1;
          left = p.board;
          left_at = ap (λ l. slice_get l k) (sym are.dealt.boards_are) ∙ mapped_at (λ q. q.board) are.places k p t.3;
          control = ends_left c.0;
          control_at = ap (λ l. slice_get l (control_of workers (k + 1))) (sym are.dealt.inboxes_are) ∙ control_at workers are.places (last ∷ []) k p wide t.3 ∙ ap Some by.control_ends;
          control_made = subst (λ (s : ControlSeat N B). HasMade (ControlTurns cluster workers b.0 s) (ends_left c.0)) (sym by.control_seat) (control_made control_fits b.0 d.0.control w.0 c.0 fresh d.2 w.2 c.2);
          count = ap length by.seats ∙ length-map t.0 seat_left ∙ pairs_length (Drained DataDid DataAtRest data_fits) v.0 t.0 v.2 ∙ datas_on.count;
          datas = has_worked k b.0 d.0 p t.0 v.0 d.1 t.3 by.seats by.ends began datas_on v.2;
        }
