-- Workers that drained left the ends and the boards with which they began.
use Rattle.std.proofs.Common.{◌≡◌, ℕ, List, [], ◌∷◌, ◌++◌, ◌∙◌, subst}
use Rattle.std.specs.Prelude.{map}
use Rattle.task_ids.specs.declared.board_name.BoardName as name
use Rattle.task_ids.specs.declared.cluster.Cluster.{Cluster}
use Rattle.task_ids.specs.declared.corpus.Corpus.{Corpus}
use Rattle.race_board.specs.declared.board.RaceBoard.{RaceBoard}
use Rattle.race_board.specs.Checks.{IsClear}
use Rattle.race_board.specs.Seats.{seat_view}
use Rattle.node_boards.specs.Race.{unused}
use Rattle.node_boards.specs.declared.race_control.RaceControl.{RaceControl}
use Rattle.node_boards.specs.declared.race_data.RaceData.{RaceData}
use Rattle.node_link.specs.declared.body.Body.{Body}
use Rattle.node_worker.specs.declared.control.ControlKind.{ControlKind}
use Rattle.node_worker.specs.declared.post.Post.{Post}
use Rattle.node_worker.specs.declared.worker.Rest.{Rest}
use Rattle.node_worker.specs.Control as control
use Rattle.node_worker.specs.Turns.{Given}
use Rattle.node_worker.specs.Job.{Begun}
use Rattle.data_worker.specs.Data as own
use Rattle.data_worker.specs.declared.kind.DataKind.{DataKind}
use Rattle.run_threads.specs.Jobs.{Drained}
use Rattle.run_inboxes.specs.declared.ends.Ends.{Ends}
use Rattle.run_inboxes.specs.Pairs.{Pairwise, Threewise}
use Rattle.run_inboxes.specs.Ends.{SameEnds}
use Rattle.run_inboxes.proofs.Pairs.{pairs_length, pairs_left, pairs_push}
use Rattle.run_cluster.specs.declared.boards.Seats.{Seats}
use Rattle.run_cluster.specs.Boards.{AreNewBoards}
use Rattle.run_cluster.specs.declared.places.Place.{Place}
use Rattle.run_cluster.specs.Places.{inboxes_of}
use Rattle.run_cluster.specs.Crews.{BeginsWith, IsControlOn, AreDatasOn, ControlBegins, DatasBegin, AreManned, ends_left, IsLeftBy}
use Rattle.run_cluster.specs.Workers.{ControlRest, DataRest, OwnBans, OwnTickets}
use Rattle.run_cluster.proofs.Emptied.{control_emptied, data_emptied}
use Rattle.run_cluster.proofs.Staying.{AreDone, SameControl, SameDatas, ends_stay, ControlLeftOn, DatasLeftOn, seats_stay}
use Rattle.run_cluster.proofs.Through.{pairs_on, pairs_map, drained_ends}
use Rattle.run_cluster.proofs.Whole.{seats_of}

module _ {W N G : Type 0} {B : name.Ghosts N} where
  abbrev pub ControlDid : ControlKind W (RaceControl N B) G → Given → List (Post Body) → ControlKind W (RaceControl N B) G → Type 0
  ControlDid v given posts w = control.Does ControlRest (control.seen v.state) given posts (control.seen w.state)

  abbrev pub ControlAtRest : ControlKind W (RaceControl N B) G → Type 0
  ControlAtRest v = control.Rests OwnBans (control.seen v.state)

  pub controls_left : (cluster : Cluster) (workers : ℕ) (fits : ControlKind W (RaceControl N B) G → Type 0) (bs : List (RaceBoard N)) (ws : List (Begun (ControlKind W (RaceControl N B) G))) (rs : List (Rest N (ControlKind W (RaceControl N B) G)))
      → Pairwise (IsControlOn cluster workers) bs ws → Pairwise (Drained ControlDid ControlAtRest fits) ws rs → Pairwise ControlLeftOn bs rs
  controls_left cluster workers fits = pairs_on (IsControlOn cluster workers) (Drained ControlDid ControlAtRest fits) ControlLeftOn
      (λ b w r on d. (let s = control_emptied (λ (v : ControlKind W (RaceControl N B) G). control.seen v.state) fits w r d in (s.0 ∙ on.over, s.1)))

  abbrev pub DataDid : DataKind W (RaceData N B) G → Given → List (Post Body) → DataKind W (RaceData N B) G → Type 0
  DataDid v given posts w = own.Does DataRest (own.seen v.state) given posts (own.seen w.state)

  abbrev pub DataAtRest : DataKind W (RaceData N B) G → Type 0
  DataAtRest v = own.Rests (own.seen v.state)

  abbrev DataFits : (ℕ → Type 0) → DataKind W (RaceData N B) G → Type 0
  DataFits allowed v = own.Fits (λ (b : RaceData N B). b.board.now.node) OwnTickets (λ b. unused (seat_view b.seat)) (λ b. IsClear (seat_view b.seat)) allowed v.state.core v.state.board

  -- the data workers of a node
  module _ (cluster : Cluster) (corpus : Corpus) (workers : ℕ) (allowed : ℕ → Type 0) (fits : DataKind W (RaceData N B) G → Type 0) (fit : (v : DataKind W (RaceData N B) G) → fits v → DataFits allowed v) where
    node_left : (b : RaceBoard N) (ws : List (Begun (DataKind W (RaceData N B) G))) (rs : List (Rest N (DataKind W (RaceData N B) G))) → AreDatasOn cluster corpus workers b ws → Pairwise (Drained DataDid DataAtRest fits) ws rs → DatasLeftOn workers b rs
    node_left b ws rs on drained = (
      pairs_length (Drained DataDid DataAtRest fits) ws rs drained ∙ on.count,
      λ k r at.
          let w = pairs_left (Drained DataDid DataAtRest fits) ws rs drained k r at in
          let s = data_emptied (λ (v : DataKind W (RaceData N B) G). own.seen v.state) allowed fits fit w.0 r w.2 in
          (s.0 ∙ (on.each k w.0 w.1).over, s.1),
    )

    pub datas_left : (bs : List (RaceBoard N)) (ws : List (List (Begun (DataKind W (RaceData N B) G)))) (rs : List (List (Rest N (DataKind W (RaceData N B) G))))
        → Pairwise (AreDatasOn cluster corpus workers) bs ws → Pairwise (Pairwise (Drained DataDid DataAtRest fits)) ws rs → Pairwise (DatasLeftOn workers) bs rs
    datas_left = pairs_on (AreDatasOn cluster corpus workers) (Pairwise (Drained DataDid DataAtRest fits)) (DatasLeftOn workers) node_left

  -- the seats that are left are those of the new boards, and hold nothing
  pub seats_after : (cluster : Cluster) (workers : ℕ) (bs : List (RaceBoard N)) (seats left : List (Seats N B)) (cs : List (Rest N (ControlKind W (RaceControl N B) G))) (ds : List (List (Rest N (DataKind W (RaceData N B) G)))) (ps : List (Place (Seats N B) (Ends Body)))
      → AreNewBoards cluster workers bs seats → Pairwise ControlLeftOn bs cs → Pairwise (DatasLeftOn workers) bs ds → Threewise IsLeftBy cs ds ps → map (λ p. p.board) ps ≡ left → Pairwise AreDone bs left
  seats_after cluster workers bs seats left cs ds ps new p q by is =
      subst (λ (l : List (Seats N B)). Pairwise AreDone bs l) is (seats_stay workers bs cs ds ps p q by (seats_of cluster workers bs seats new))

  -- workers that drained left the ends with which they began
  each_same : (did : DataKind W (RaceData N B) G → Given → List (Post Body) → DataKind W (RaceData N B) G → Type 0) (at_rest fits : DataKind W (RaceData N B) G → Type 0) (es : List (Ends Body)) (ws : List (Begun (DataKind W (RaceData N B) G))) (rs : List (Rest N (DataKind W (RaceData N B) G)))
      → Pairwise BeginsWith es ws → Pairwise (Drained did at_rest fits) ws rs → Pairwise SameEnds es (map ends_left rs)
  each_same did at_rest fits es ws rs begins drained =
      pairs_map SameEnds ends_left es rs (pairs_on BeginsWith (Drained did at_rest fits) (λ (e : Ends Body) r. SameEnds e (ends_left r)) (λ e w r b d. drained_ends did at_rest fits e w r b d) es ws rs begins drained)

  -- all ends are those that were dealt
  pub ends_kept : (did : ControlKind W (RaceControl N B) G → Given → List (Post Body) → ControlKind W (RaceControl N B) G → Type 0) (at_rest fits : ControlKind W (RaceControl N B) G → Type 0) (own : DataKind W (RaceData N B) G → Given → List (Post Body) → DataKind W (RaceData N B) G → Type 0) (own_rest own_fits : DataKind W (RaceData N B) G → Type 0)
      → {S : Type 0} (workers : ℕ) (seats : List S) (ends : List (Ends Body)) (controls : List (Begun (ControlKind W (RaceControl N B) G))) (datas : List (List (Begun (DataKind W (RaceData N B) G)))) (driver last : Ends Body)
      (cs : List (Rest N (ControlKind W (RaceControl N B) G))) (ds : List (List (Rest N (DataKind W (RaceData N B) G)))) (ps : List (Place (Seats N B) (Ends Body))) (back : List (Ends Body))
      → AreManned workers seats ends controls datas driver → Pairwise (Drained did at_rest fits) controls cs → Pairwise (Pairwise (Drained own own_rest own_fits)) datas ds → SameEnds driver last → Threewise IsLeftBy cs ds ps → inboxes_of ps ++ last ∷ [] ≡ back → Pairwise SameEnds ends back
  ends_kept did at_rest fits own own_rest own_fits workers seats ends controls datas driver last cs ds ps back m p q same by is =
      let first = pairs_on ControlBegins (Drained did at_rest fits) SameControl (λ x w r b d. drained_ends did at_rest fits x.control w r b d) m.places controls cs m.control p in
      let second = pairs_on DatasBegin (Pairwise (Drained own own_rest own_fits)) SameDatas (λ x ws rs b d. each_same own own_rest own_fits x.datas.items ws rs b d) m.places datas ds m.own q in
      let all = pairs_push SameEnds (inboxes_of m.places) (inboxes_of ps) driver last (ends_stay m.places cs ds ps first second by) same in
      subst (λ (l : List (Ends Body)). Pairwise SameEnds l back) m.dealt.inboxes_are (subst (λ (l : List (Ends Body)). Pairwise SameEnds (inboxes_of m.places ++ driver ∷ []) l) is all)
