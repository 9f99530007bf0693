-- What the workers of a cluster left, by what they began with.
use Rattle.std.proofs.Common.{◌≡◌, ℕ, suc, ◌+◌, List, [], ◌∷◌, All, length, Some, refl, sym, ap, ◌∙◌, subst}
use Rattle.std.specs.Prelude.{slice_get, map}
use Rattle.std.proofs.lemmas.List.{length-map}
use Rattle.std.proofs.lemmas.List.Elements.{All-nil, All-cons, All-map}
use Rattle.std.proofs.lemmas.List.Sums.{sum_by-cons}
use Rattle.task_ids.specs.declared.board_name.BoardName as name
use Rattle.race_board.specs.declared.board.RaceBoard.{RaceBoard}
use Rattle.race_board.specs.declared.seats.ControlSeat.{ControlSeat}
use Rattle.race_board.specs.declared.seats.DataSeat.{DataSeat}
use Rattle.race_board.specs.Board.{tickets_out}
use Rattle.race_board.specs.Seats.{seat_view, control_view, board_size, IsControlOf, IsSeatOf}
use Rattle.race_board.specs.Closing.{bans_out, all_tickets}
use Rattle.node_boards.specs.declared.race_control.RaceControl.{RaceControl}
use Rattle.node_boards.specs.declared.race_data.RaceData.{RaceData}
use Rattle.node_link.specs.declared.body.Body.{Body}
use Rattle.node_worker.specs.declared.control.ControlKind.{ControlKind}
use Rattle.node_worker.specs.declared.worker.Rest.{Rest}
use Rattle.data_worker.specs.declared.kind.DataKind.{DataKind}
use Rattle.run_inboxes.specs.declared.ends.Ends.{Ends}
use Rattle.run_inboxes.specs.Pairs.{Pairwise, Threewise}
use Rattle.run_inboxes.specs.Ends.{SameEnds}
use Rattle.run_inboxes.proofs.Pairs.{pairs_left}
use Rattle.run_cluster.specs.declared.boards.Seats.{Seats}
use Rattle.run_cluster.specs.declared.places.Place.{Place}
use Rattle.run_cluster.specs.Boards.{AreSeatsOf, HoldNothing, AllHoldNothing}
use Rattle.run_cluster.specs.Places.{inboxes_of}
use Rattle.run_cluster.specs.Crews.{seat_left, ends_left, IsLeftBy}
use Rattle.run_cluster.proofs.Through.{pairs_append}

module _ {N : Type 0} {B : name.Ghosts N} where
  -- the seats are of this board, and hold nothing
  abbrev pub AreDone : RaceBoard N → Seats N B → Type 0
  AreDone b seats = AreSeatsOf b seats × HoldNothing seats

  pub of_boards : (bs : List (RaceBoard N)) (all : List (Seats N B)) → Pairwise AreDone bs all → Pairwise AreSeatsOf bs all
  of_boards [] [] p = tt
  of_boards [] (s ∷ all) p = absurd p
  of_boards (b ∷ bs) [] p = absurd p
  of_boards (b ∷ bs) (s ∷ all) p = (p.0.0, of_boards bs all p.1)

  pub hold_nothing : (bs : List (RaceBoard N)) (all : List (Seats N B)) → Pairwise AreDone bs all → AllHoldNothing all
  hold_nothing bs all p k seats at = let d = pairs_left AreDone bs all p k seats at in d.2.1

module _ {W N G : Type 0} {B : name.Ghosts N} where
  -- a worker over this board left the same ends
  abbrev pub SameControl : {S : Type 0} → Place S (Ends Body) → Rest N (ControlKind W (RaceControl N B) G) → Type 0
  SameControl p c = SameEnds p.control (ends_left c)

  abbrev pub SameDatas : {S : Type 0} → Place S (Ends Body) → List (Rest N (DataKind W (RaceData N B) G)) → Type 0
  SameDatas p ds = Pairwise SameEnds p.datas.items (map ends_left ds)

  pub ends_stay : {S : Type 0} (ps : List (Place S (Ends Body))) (cs : List (Rest N (ControlKind W (RaceControl N B) G))) (ds : List (List (Rest N (DataKind W (RaceData N B) G)))) (qs : List (Place (Seats N B) (Ends Body)))
      → Pairwise SameControl ps cs → Pairwise SameDatas ps ds → Threewise IsLeftBy cs ds qs → Pairwise SameEnds (inboxes_of ps) (inboxes_of qs)
  ends_stay [] [] [] [] p q left = tt
  ends_stay [] [] [] (y ∷ qs) p q left = absurd left
  ends_stay [] [] (d ∷ ds) qs p q left = absurd q
  ends_stay [] (c ∷ cs) ds qs p q left = absurd p
  ends_stay (x ∷ ps) [] ds qs p q left = absurd p
  ends_stay (x ∷ ps) (c ∷ cs) [] qs p q left = absurd q
  ends_stay (x ∷ ps) (c ∷ cs) (d ∷ ds) [] p q left = absurd left
  ends_stay (x ∷ ps) (c ∷ cs) (d ∷ ds) (y ∷ qs) p q left = (
    subst (λ (e : Ends Body). SameEnds x.control e) (sym left.0.control_ends) p.0,
    pairs_append SameEnds x.datas.items y.datas.items (inboxes_of ps) (inboxes_of qs)
        (subst (λ (l : List (Ends Body)). Pairwise SameEnds x.datas.items l) (sym left.0.ends) q.0) (ends_stay ps cs ds qs p.1 q.1 left.1),
  )

  -- a worker left its seat of this board, which holds nothing
  abbrev pub ControlLeftOn : RaceBoard N → Rest N (ControlKind W (RaceControl N B) G) → Type 0
  ControlLeftOn b c = (c.worker.state.board.board.now ≡ b) × (bans_out (control_view c.worker.state.board.seat) ≡ 0)

  abbrev pub DataLeftOn : RaceBoard N → Rest N (DataKind W (RaceData N B) G) → Type 0
  DataLeftOn b d = (d.worker.state.board.board.now ≡ b) × (tickets_out (seat_view d.worker.state.board.seat) ≡ 0)

  -- so did each data worker of a node
  abbrev pub EachLeftOn : RaceBoard N → List (Rest N (DataKind W (RaceData N B) G)) → Type 0
  EachLeftOn b ds = (k : ℕ) (d : Rest N (DataKind W (RaceData N B) G)) → slice_get ds k ≡ Some d → DataLeftOn b d

  -- and there are so many
  abbrev pub DatasLeftOn : ℕ → RaceBoard N → List (Rest N (DataKind W (RaceData N B) G)) → Type 0
  DatasLeftOn workers b ds = (length ds ≡ workers) × EachLeftOn b ds

  all_own : (b : RaceBoard N) (ds : List (Rest N (DataKind W (RaceData N B) G))) → EachLeftOn b ds → All (λ d. IsSeatOf b (seat_left d)) ds
  all_own b [] on = All-nil (λ (d : Rest N (DataKind W (RaceData N B) G)). IsSeatOf b (seat_left d))
  all_own b (d ∷ ds) on = All-cons (λ (d : Rest N (DataKind W (RaceData N B) G)). IsSeatOf b (seat_left d)) d ds
      (subst (λ (x : RaceBoard N). IsSeatOf x d.worker.state.board.seat) (on 0 d refl).0 d.worker.state.board.fits)
      (all_own b ds (λ k e at. on (suc k) e at))

  none_out : (b : RaceBoard N) (ds : List (Rest N (DataKind W (RaceData N B) G))) → EachLeftOn b ds → all_tickets (map seat_left ds) ≡ 0
  none_out b [] on = refl
  none_out b (d ∷ ds) on =
      let own = (on 0 d refl).1 in
      let rest = none_out b ds (λ k e at. on (suc k) e at) in
      sum_by-cons (λ (s : DataSeat N B). tickets_out (seat_view s)) (seat_left d) (map seat_left ds) ∙ (λ i. own i + rest i)

  seats_done : (workers : ℕ) (b : RaceBoard N) (c : Rest N (ControlKind W (RaceControl N B) G)) (ds : List (Rest N (DataKind W (RaceData N B) G))) (p : Place (Seats N B) (Ends Body))
      → ControlLeftOn b c → DatasLeftOn workers b ds → IsLeftBy c ds p → (board_size b).seats ≡ workers → AreDone b p.board
  seats_done workers b c ds p left on by size = (
    record {
      count = ap length by.seats ∙ length-map ds seat_left ∙ on.0 ∙ sym size;
      control = subst (λ (s : ControlSeat N B). IsControlOf b s) (sym by.control_seat) (subst (λ (x : RaceBoard N). IsControlOf x c.worker.state.board.seat) left.0 c.worker.state.board.fits);
      own = subst (λ (l : List (DataSeat N B)). All (IsSeatOf b) l) (sym by.seats) (All-map (IsSeatOf b) seat_left ds (all_own b ds on.1));
    },
    record {
      bans = ap (λ (s : ControlSeat N B). bans_out (control_view s)) by.control_seat ∙ left.1;
      tickets = ap (λ (l : List (DataSeat N B)). all_tickets l) by.seats ∙ none_out b ds on.1;
    },
  )

  -- the seats that were left are those of the boards, in their order
  pub seats_stay : (workers : ℕ) (bs : List (RaceBoard N)) (cs : List (Rest N (ControlKind W (RaceControl N B) G))) (ds : List (List (Rest N (DataKind W (RaceData N B) G)))) (ps : List (Place (Seats N B) (Ends Body)))
      → Pairwise ControlLeftOn bs cs → Pairwise (DatasLeftOn workers) bs ds → Threewise IsLeftBy cs ds ps → ((k : ℕ) (b : RaceBoard N) → slice_get bs k ≡ Some b → (board_size b).seats ≡ workers)
      → Pairwise AreDone bs (map (λ p. p.board) ps)
  seats_stay workers [] [] [] [] p q left size = tt
  seats_stay workers [] [] [] (x ∷ ps) p q left size = absurd left
  seats_stay workers [] [] (d ∷ ds) ps p q left size = absurd q
  seats_stay workers [] (c ∷ cs) ds ps p q left size = absurd p
  seats_stay workers (b ∷ bs) [] ds ps p q left size = absurd p
  seats_stay workers (b ∷ bs) (c ∷ cs) [] ps p q left size = absurd q
  seats_stay workers (b ∷ bs) (c ∷ cs) (d ∷ ds) [] p q left size = absurd left
  seats_stay workers (b ∷ bs) (c ∷ cs) (d ∷ ds) (x ∷ ps) p q left size =
      (seats_done workers b c d x p.0 q.0 left.0 (size 0 b refl), seats_stay workers bs cs ds ps p.1 q.1 left.1 (λ k y at. size (suc k) y at))
