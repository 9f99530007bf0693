-- The ends of all inboxes, as they are made and as they are closed.
use Rattle.std.proofs.Common.{◌≡◌, ℕ, List, [], ◌∷◌, length, Some, sym, refl, ap, ◌∙◌, subst, arith}
use Rattle.std.specs.Prelude.{slice_get, map, Option}
use Rattle.std.specs.Global.{Vec}
use Rattle.std.proofs.lemmas.Option.{slice_get_within, slice_get-map}
use Rattle.std.proofs.lemmas.List.{length-map}
use Rattle.node_link.specs.declared.ends.Sender.{Sender}
use Rattle.node_link.specs.declared.ends.Receiver.{Receiver}
use Rattle.node_link.specs.declared.ends.SenderEnd.{SenderEnd}
use Rattle.node_link.specs.declared.ends.Tally.{Tally}
use Rattle.node_link.specs.Inbox.{put, sent_by, sent_total, LeadsTo, LeftBy}
use Rattle.node_link.proofs.Counts.{Some_injective}
use Rattle.run_inboxes.specs.declared.ends.Ends.{Ends}
use Rattle.run_inboxes.specs.Pairs.{Pairwise, Threewise}
use Rattle.run_inboxes.specs.Rows.{HasWidth, IsTurned}
use Rattle.run_inboxes.specs.Ends.{IsWhole, AreLinked, AreNew, IsOpened}
use Rattle.node_link.specs.Rule.{total}
use Rattle.run_inboxes.specs.Closed.{AllLeft, MayFinish, IsFinished, put_by, sent_into, IsClosed, AreClosed}
use Rattle.run_inboxes.proofs.Pairs.{pairs_length, pairs_right, pairs_left, pairs_from, threes_length, threes_at}
use Rattle.run_inboxes.proofs.Rows.{stands}

mapped : {A B : Type 0} (f : A → B) (xs : List A) (ys : List B) (k : ℕ) (x : A) → map f xs ≡ ys → slice_get xs k ≡ Some x → slice_get ys k ≡ Some (f x)
mapped f xs ys k x is at = ap (λ l. slice_get l k) (sym is) ∙ slice_get-map f xs k ∙ ap (Rattle.std.specs.Prelude.option_map f) at

totals_same : {A B : Type 0} (f : A → ℕ) (g : B → ℕ) (xs : List A) (ys : List B) → Pairwise (λ x y. f x ≡ g y) xs ys → total f xs ≡ total g ys
totals_same f g [] [] p = refl
totals_same f g [] (y ∷ ys) p = absurd p
totals_same f g (x ∷ xs) [] p = absurd p
totals_same f g (x ∷ xs) (y ∷ ys) p = let h = totals_same f g xs ys p.1 in let e = p.0 in omega arith

module _ {L : Type 0} where
  module _ (capacity count : ℕ) (inboxes : List (Receiver L)) (rows columns : List (Vec (Sender L))) (all : List (Ends L))
      (many : length inboxes ≡ count) (opened : Pairwise (IsOpened capacity count) inboxes rows) (turned : IsTurned count rows columns)
      (own : map (λ e. e.inbox) all ≡ inboxes) (sent : map (λ e. e.senders) all ≡ columns) where
    long : length all ≡ length inboxes
    long = sym (length-map all (λ e. e.inbox)) ∙ ap length own

    pub new_linked : AreLinked all
    new_linked = record { whole = whole; lead = lead }
      where
        whole : (k : ℕ) (e : Ends L) → slice_get all k ≡ Some e → IsWhole (length all) e
        whole k e at =
            let o = pairs_right (IsOpened capacity count) inboxes rows opened k e.inbox (mapped (λ e. e.inbox) all inboxes k e own at) in
            record {
              senders = turned.long k e.senders (mapped (λ e. e.senders) all columns k e sent at) ∙ pairs_length (IsOpened capacity count) inboxes rows opened ∙ sym long;
              inbox = o.2.made ∙ sym many ∙ sym long;
            }

        lead : (k i : ℕ) (e f : Ends L) (s : Sender L) → slice_get all k ≡ Some e → slice_get all i ≡ Some f → slice_get e.senders.items i ≡ Some s → LeadsTo f.inbox k s
        lead k i e f s at there is =
            let o = pairs_right (IsOpened capacity count) inboxes rows opened i f.inbox (mapped (λ e. e.inbox) all inboxes i f own there) in
            let same = turned.same i k o.0 e.senders o.1 (mapped (λ e. e.senders) all columns k e sent at) in
            (o.2.lead k s (sym same ∙ is)).0

    pub new_new : (k : ℕ) (e : Ends L) → slice_get all k ≡ Some e → AreNew capacity e
    new_new k e at =
        let o = pairs_right (IsOpened capacity count) inboxes rows opened k e.inbox (mapped (λ e. e.inbox) all inboxes k e own at) in
        record { taken = o.2.taken; sent = fresh; room = o.2.room }
      where
        fresh : (i : ℕ) (s : Sender L) → slice_get e.senders.items i ≡ Some s → put s ≡ []
        fresh i s is =
            let there = mapped (λ e. e.senders) all columns k e sent at in
            let low = slice_get_within e.senders.items i s is in
            let high = turned.long k e.senders there in
            let row = stands rows i (omega arith) in
            let o = pairs_left (IsOpened capacity count) inboxes rows opened i row.0 row.1 in
            (o.2.lead k s (sym (turned.same i k row.0 e.senders row.1 there) ∙ is)).1

  module _ (all : List (Ends L)) (rows : List (Vec (SenderEnd L))) (linked : AreLinked all) (left : Pairwise AllLeft all rows) where
    pub rows_wide : HasWidth (length all) rows
    rows_wide i row at =
        let p = pairs_left AllLeft all rows left i row at in
        pairs_length LeftBy p.0.senders.items row.items p.2 ∙ (linked.whole i p.0 p.1).senders

    module _ (columns : List (Vec (SenderEnd L))) (turned : IsTurned (length all) rows columns) where
      -- the end that stands there is what the sender left that stands there
      end_at : (i k : ℕ) (column : Vec (SenderEnd L)) (e : SenderEnd L) → slice_get columns i ≡ Some column → slice_get column.items k ≡ Some e → (d : Ends L) × (s : Sender L) × (slice_get all k ≡ Some d) × (slice_get d.senders.items i ≡ Some s) × LeftBy s e
      end_at i k column e at is =
          let low = slice_get_within column.items k e is in
          let high = turned.long i column at in
          let row = stands rows k (omega arith) in
          let d = pairs_left AllLeft all rows left k row.0 row.1 in
          let s = pairs_left LeftBy d.0.senders.items row.0.items d.2 i e (sym (turned.same k i row.0 column row.1 at) ∙ is) in
          (d.0, s.0, d.1, s.1, s.2)

      -- what that sender left
      left_at : (i k : ℕ) (column : Vec (SenderEnd L)) (d : Ends L) (s : Sender L) → slice_get columns i ≡ Some column → slice_get all k ≡ Some d → slice_get d.senders.items i ≡ Some s → (e : SenderEnd L) × (slice_get column.items k ≡ Some e) × LeftBy s e
      left_at i k column d s at there is =
          let row = pairs_right AllLeft all rows left k d there in
          let e = pairs_right LeftBy d.senders.items row.0.items row.2 i s is in
          (e.0, turned.same k i row.0 column row.1 at ∙ e.1, e.2)

      may_finish : (i : ℕ) (f : Ends L) (column : Vec (SenderEnd L)) → slice_get all i ≡ Some f → slice_get columns i ≡ Some column → MayFinish f.inbox column
      may_finish i f column there at =
          let w = linked.whole i f there in
          let low = slice_get_within all i f there in
          let made = w.inbox in (
            omega arith,
            (
              turned.long i column at ∙ pairs_length AllLeft all rows left ∙ sym made,
              λ k e is. (let t = end_at i k column e at is in let l = linked.lead k i t.0 f t.1 t.2 there t.3 in (t.4.1 ∙ l.0, t.4.2 ∙ l.1)),
            ),
          )

      pub all_may : (inboxes : List (Receiver L)) → inboxes ≡ map (λ e. e.inbox) all → Pairwise MayFinish inboxes columns
      all_may inboxes is = subst (λ l. Pairwise MayFinish l columns) (sym is)
          (pairs_from MayFinish (map (λ e. e.inbox) all) columns (turned.count ∙ sym (length-map all (λ e. e.inbox))) each)
        where
          each : (i : ℕ) (r : Receiver L) (column : Vec (SenderEnd L)) → slice_get (map (λ e. e.inbox) all) i ≡ Some r → slice_get columns i ≡ Some column → MayFinish r column
          each i r column at there =
              let low = slice_get_within columns i column there in
              let many = turned.count in
              let f = stands all i (omega arith) in
              let same = Some_injective f.0.inbox r (sym (mapped (λ e. e.inbox) all (map (λ e. e.inbox) all) i f.0 refl f.1) ∙ at) in
              subst (λ x. MayFinish x column) same (may_finish i f.0 column f.1 there)

      -- as much was left for this inbox as the ends sent into it
      sent_alike : (i : ℕ) (column : Vec (SenderEnd L)) → slice_get columns i ≡ Some column → sent_total column.items ≡ total (λ d. length (sent_into i d)) all
      sent_alike i column at = totals_same (λ e. length (sent_by e)) (λ d. length (sent_into i d)) column.items all
          (pairs_from (λ e d. length (sent_by e) ≡ length (sent_into i d)) column.items all (sym (turned.long i column at ∙ pairs_length AllLeft all rows left)) each)
        where
          each : (k : ℕ) (e : SenderEnd L) (d : Ends L) → slice_get column.items k ≡ Some e → slice_get all k ≡ Some d → length (sent_by e) ≡ length (sent_into i d)
          each k e d is there =
              let t = end_at i k column e at is in
              let same = Some_injective t.0 d (sym t.2 ∙ there) in
              ap length (t.4.0 ∙ sym (ap put_by t.3) ∙ ap (sent_into i) same)

      pub all_closed : (inboxes : List (Receiver L)) (tallies : List Tally) → inboxes ≡ map (λ e. e.inbox) all → Threewise IsFinished inboxes columns tallies → AreClosed all tallies
      all_closed inboxes tallies is finished = record {
        count = threes_length IsFinished inboxes columns tallies finished ∙ ap length is ∙ length-map all (λ e. e.inbox);
        each = each;
      }
        where
          closed : (i : ℕ) (r : Receiver L) (t : Tally) (column : Vec (SenderEnd L)) → slice_get columns i ≡ Some column → IsFinished r column t → IsClosed all i r t
          closed i r t column at f = record {
            order = λ k d s there here. (let e = left_at i k column d s at there here in let o = f.order k e.0 e.1 in (o.0, o.1 ∙ e.2.0));
            whole = λ same k d s there here. (let e = left_at i k column d s at there here in f.all same k e.0 e.1 ∙ e.2.0);
            most = f.most;
            taken = f.taken;
            sent = f.sent ∙ sent_alike i column at;
          }

          each : (i : ℕ) (e : Ends L) (t : Tally) → slice_get all i ≡ Some e → slice_get tallies i ≡ Some t → IsClosed all i e.inbox t
          each i e t at there =
              let f = threes_at IsFinished inboxes columns tallies finished i e.inbox t (mapped (λ e. e.inbox) all inboxes i e (sym is) at) there in
              closed i e.inbox t f.0 f.1 f.2
