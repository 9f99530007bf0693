-- The mail of those who have ends, by these ends.
use Rattle.std.proofs.Common.{◌≡◌, ℕ, zero, suc, List, [], ◌∷◌, length, Some, refl, sym, ap, ◌∙◌, subst, arith}
use Rattle.std.specs.Prelude.{map, slice_get, slice_index_or}
use Rattle.std.proofs.lemmas.Option.{slice_get_within}
use Rattle.std.proofs.lemmas.List.{length-map}
use Rattle.node_link.specs.declared.body.Body.{Body}
use Rattle.node_link.specs.declared.ends.Sender.{Sender}
use Rattle.node_link.specs.declared.ends.Tally.{Tally}
use Rattle.node_link.specs.Rule.{of, total}
use Rattle.node_link.specs.Inbox.{put, got, Begins}
use Rattle.node_worker.specs.Turns.{Turn}
use Rattle.run_inboxes.specs.declared.ends.Ends.{Ends}
use Rattle.run_inboxes.specs.Ends.{AreLinked}
use Rattle.run_inboxes.specs.Closed.{put_by, sent_into, IsClosed}
use Rattle.run_inboxes.proofs.Rows.{stands}
use Rattle.run_cluster.specs.Crews.{Mailed}
use Rattle.run_cluster.specs.Mail.{Mail, into, IsInbox, AreTurnsOf}
use Rattle.run_cluster.proofs.Mapping.{mapped_at, made_of}

abbrev pub mail_of : Ends Body → Mail
mail_of e = record { took = got e.inbox; sent = map put e.senders.items }

abbrev pub all_mail : List (Ends Body) → List Mail
all_mail ends = map mail_of ends

total_map : {A B : Type 0} (f : B → ℕ) (g : A → B) (h : A → ℕ) → ((x : A) → f (g x) ≡ h x) → (xs : List A) → total f (map g xs) ≡ total h xs
total_map f g h same [] = refl
total_map f g h same (x ∷ xs) = let e = same x in let i = total_map f g h same xs in omega arith

sent_at : (xs : List (Sender Body)) (k : ℕ) → slice_index_or (map put xs) k [] ≡ put_by (slice_get xs k)
sent_at [] k = refl
sent_at (x ∷ xs) zero = refl
sent_at (x ∷ xs) (suc k) = sent_at xs k

into_is : (k : ℕ) (e : Ends Body) → into k (mail_of e) ≡ sent_into k e
into_is k e = sent_at e.senders.items k

module _ (ends : List (Ends Body)) (linked : AreLinked ends) where
  -- the sender by which somebody sends into an inbox
  sends : (i k : ℕ) (e f : Ends Body) → slice_get ends i ≡ Some f → slice_get ends k ≡ Some e → (s : Sender Body) × (slice_get e.senders.items i ≡ Some s) × (into i (mail_of e) ≡ put s)
  sends i k e f there at =
      let low = slice_get_within ends i f there in
      let wide = (linked.whole k e at).senders in
      let s = stands e.senders.items i (omega arith) in
      (s.0, s.1, into_is i e ∙ ap put_by s.1)

  pub inbox_of : (i : ℕ) (f : Ends Body) (told : Tally) → slice_get ends i ≡ Some f → IsClosed ends i f.inbox told → IsInbox (all_mail ends) i told
  inbox_of i f told there closed = record {
    own = mail_of f;
    here = mapped_at mail_of ends i f there;
    order = order;
    whole = whole;
    most = closed.most;
    taken = closed.taken;
    sent = closed.sent ∙ sym (total_map (λ m. length (into i m)) mail_of (λ e. length (sent_into i e)) (λ e. ap length (into_is i e)) ends);
  }
    where
      order : (k : ℕ) (m : Mail) → slice_get (all_mail ends) k ≡ Some m → Begins (of k (got f.inbox)) (into i m)
      order k m at =
          let e = made_of mail_of ends k m at in
          let s = sends i k e.0 f there e.1 in
          subst (λ (x : List Body). Begins (of k (got f.inbox)) x) (sym s.2 ∙ ap (into i) e.2) (closed.order k e.0 s.0 e.1 s.1)

      whole : told.sent ≡ told.taken → (k : ℕ) (m : Mail) → slice_get (all_mail ends) k ≡ Some m → of k (got f.inbox) ≡ into i m
      whole same k m at =
          let e = made_of mail_of ends k m at in
          let s = sends i k e.0 f there e.1 in
          closed.whole same k e.0 s.0 e.1 s.1 ∙ sym s.2 ∙ ap (into i) e.2

  pub turns_of : (k : ℕ) (e : Ends Body) (turns : List Turn) → slice_get ends k ≡ Some e → Mailed e turns → AreTurnsOf (all_mail ends) k turns
  turns_of k e turns at mailed = record {
    own = mail_of e;
    here = mapped_at mail_of ends k e at;
    took = mailed.took;
    sent = λ i low. (
        let long = length-map ends mail_of in
        let f = stands ends i (omega arith) in
        let s = sends i k e f.0 f.1 at in
        s.2 ∙ mailed.sent i s.0 s.1);
  }
