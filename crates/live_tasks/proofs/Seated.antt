-- One live task changes, comes or goes: the seat has the tickets of the live tasks and no other, and each that is not new is clear.
use Rattle.std.proofs.Common.{◌≡◌, ◌≢◌, ℕ, ◌⊎◌, ◌↔◌, inl, inr, Option, None, Some, refl, sym, subst, ◌∙◌}
use Rattle.std.specs.Prelude.{IfSome}
use Rattle.child_track.specs.Token.{token_parent}
use Rattle.task_table.specs.TicketParts.{TicketParts}
use Rattle.race_board.specs.Keys.{parent_key}
use Rattle.node_boards.specs.Seats.{HasTicket, SameTickets, OneMore, OneLess, KeepsOthers}
use Rattle.live_tasks.specs.declared.entry.Entry.{Entry}
use Rattle.live_tasks.specs.Live.{ChangesAt}
use Rattle.live_tasks.specs.Ties.{AreSeated, HasParent, HasPassed}
use Rattle.live_tasks.proofs.Keys.{by_number}

pub both : {A B C : Type 0} → A ↔ B → B ↔ C → A ↔ C
both f g = ((λ a. g.0 (f.0 a)), (λ c. f.1 (g.1 c)))

-- the key of a ticket's parent
key_of : TicketParts → ℕ
key_of t = parent_key (token_parent t.token)

module _ (has : ℕ → ℕ → Type 0) (clear : ℕ → Type 0) (at : ℕ → Option Entry) (n : ℕ) (seated : AreSeated has clear at) where
  -- a live task's ticket is at the seat
  pub has_ticket : (e : Entry) → at n ≡ Some e → e.running.ticket.id.number ≡ n → HasTicket has e.running.ticket
  has_ticket e was number = subst (λ m. has m (parent_key (token_parent e.running.ticket.token))) (sym number) ((seated.tickets n _).1 (subst (HasParent _) (sym was) refl))

  -- no live task has a number of which the seat has no ticket
  pub fresh_number : ((q : ℕ) → ¬ has n q) → at n ≡ None
  fresh_number none = by_entry (at n) refl
    where
      by_entry : (o : Option Entry) → at n ≡ o → at n ≡ None
      by_entry None e = e
      by_entry (Some x) e = absurd (none _ ((seated.tickets n _).1 (subst (HasParent (parent_key (token_parent x.running.ticket.token))) (sym e) refl)))

  module _ (has' : ℕ → ℕ → Type 0) (clear' : ℕ → Type 0) (now : ℕ → Option Entry) (keeps : KeepsOthers clear clear' n) where
    still : (m : ℕ) → m ≢ n → (o : Option Entry) → IfSome o (HasPassed clear m) → IfSome o (HasPassed clear' m)
    still m other None h = tt
    still m other (Some e) h = λ old. keeps m other (h old)

    -- one changes
    pub seated_changed : (e f : Entry) → at n ≡ Some e → ChangesAt at now n (Some f) → SameTickets has has' → f.running.ticket ≡ e.running.ticket → HasPassed clear' n f → AreSeated has' clear' now
    seated_changed e f was change same ticket passed = record {
      tickets = λ m p. by_number (λ m o. has' m p ↔ HasParent p o) at now n (Some f) change
          (both (same n p) (subst (λ (t : TicketParts). has n p ↔ (parent_key (token_parent t.token) ≡ p)) (sym ticket) (subst (λ o. has n p ↔ HasParent p o) was (seated.tickets n p))))
          (λ m other. both (same m p) (seated.tickets m p)) m;
      passed = by_number (λ m o. IfSome o (HasPassed clear' m)) at now n (Some f) change passed (λ m other. still m other (at m) (seated.passed m));
    }

    -- one comes
    module _ (e : Entry) (key : ℕ) (change : ChangesAt at now n (Some e)) (more : OneMore has has' n key) (is : parent_key (token_parent e.running.ticket.token) ≡ key) where
      of_new : (p : ℕ) → has n p ⊎ ((n ≡ n) × (p ≡ key)) → p ≡ key
      of_new p (inl h) = absurd (more.0 p h)
      of_new p (inr s) = s.1

      of_old : (m p : ℕ) → m ≢ n → has m p ⊎ ((m ≡ n) × (p ≡ key)) → has m p
      of_old m p other (inl h) = h
      of_old m p other (inr s) = absurd (other s.0)

      pub seated_more : HasPassed clear' n e → AreSeated has' clear' now
      seated_more passed = record {
        tickets = λ m p. by_number (λ m o. has' m p ↔ HasParent p o) at now n (Some e) change
            ((λ h. is ∙ sym (of_new p ((more.2 n p).0 h))), (λ q. (more.2 n p).1 (inr (refl, sym q ∙ is))))
            (λ m other. ((λ h. (seated.tickets m p).0 (of_old m p other ((more.2 m p).0 h))), (λ h. (more.2 m p).1 (inl ((seated.tickets m p).1 h))))) m;
        passed = by_number (λ m o. IfSome o (HasPassed clear' m)) at now n (Some e) change passed (λ m other. still m other (at m) (seated.passed m));
      }

    -- one goes
    pub seated_less : ChangesAt at now n None → OneLess has has' n → AreSeated has' clear' now
    seated_less change less = record {
      tickets = λ m p. by_number (λ m o. has' m p ↔ HasParent p o) at now n None change
          ((λ h. absurd (less.0 p h)), (λ h. absurd h))
          (λ m other. ((λ h. (seated.tickets m p).0 ((less.1 m p).0 h).1), (λ h. (less.1 m p).1 (other, (seated.tickets m p).1 h)))) m;
      passed = by_number (λ m o. IfSome o (HasPassed clear' m)) at now n None change tt (λ m other. still m other (at m) (seated.passed m));
    }
