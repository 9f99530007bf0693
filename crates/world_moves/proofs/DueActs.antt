-- The acts that are due for a cancellation are the answers and the unbans that the past says.
use Rattle.std.proofs.Common.{◌≡◌, ℕ, Bool, true, false, cond, not, List, [], ◌∷◌, ◌++◌, Option, Some, None, map, filter, refl, sym, ap, ◌∙◌, arith, append-nil}
use Rattle.std.specs.Prelude.{◌&&◌, ◌||◌, is_some, filter_map}
use Rattle.std.specs.List.{list_all}
use Rattle.std.proofs.lemmas.List.Elements.{filter_map-append}
use Rattle.task_ids.specs.declared.task_id.TaskId.{TaskId}
use Rattle.child_track.specs.Token.{ReceiptParts}
use Rattle.cancel_core.specs.Acts.{due_acts, placed_answers, answer_act, unban_acts}
use Rattle.cancel_core.specs.Cancellation.{Cancellation, rest_of, is_nil, is_placed}
use Rattle.cancel_core.specs.Listings.{is_stopped}
use Rattle.task_events.specs.declared.event.Event.{Event}
use Rattle.task_events.specs.declared.event.Event.TheVariants.{AnswerPlaced, AnswerDone}
use Rattle.task_events.specs.Bans.{banned_nodes, is_acked, bans_are_placed, is_stopped as has_stopped}
use Rattle.task_events.specs.Messages.{unbans_from}
use Rattle.task_events.specs.Messages.Message.{Unban}
use Rattle.task_events.specs.Tasks.{has_ended}
use Rattle.world_moves.specs.Acts.{message_in, messages_in, answer_in, offered_in}
use Rattle.world_moves.specs.Cancels.{waits_for_end, is_through, answer_to}
use Rattle.world_moves.specs.Cancelling.{IsCancellationOf, IsEntryOf, waiter_of}
use Rattle.world_moves.specs.Flights.{message_of}

-- none is left of the nodes that have not acknowledged where all have
none_left : (acked : ℕ → Bool) (ns : List ℕ) → is_nil (filter (λ n. not (acked n)) ns) ≡ list_all acked ns
none_left acked [] = refl
none_left acked (n ∷ ns) = let rest = none_left acked ns in grind arith

pub all_pass : {X : Type 0} (xs : List X) → filter (λ x. true) xs ≡ xs
all_pass [] = refl
all_pass (x ∷ xs) = ap (λ ys. x ∷ ys) (all_pass xs)

pub none_pass : {X : Type 0} (xs : List X) → filter (λ x. false) xs ≡ []
none_pass [] = refl
none_pass (x ∷ xs) = none_pass xs

-- ---- of cancels that wait

module _ (t : TaskId) (h : List Event) where
  -- while the task has not ended
  answers_placed : (ks : List ℕ) → filter_map answer_in (placed_answers t (map (waiter_of h) ks)) ≡ map (answer_to h) (filter (λ k. not (waits_for_end k h) || false) ks)
  answers_placed [] = refl
  answers_placed (k ∷ ks) = by_wait (waits_for_end k h) refl (answers_placed ks)
    where
      by_wait : (b : Bool) → waits_for_end k h ≡ b → filter_map answer_in (placed_answers t (map (waiter_of h) ks)) ≡ map (answer_to h) (filter (λ k. not (waits_for_end k h) || false) ks) → filter_map answer_in (placed_answers t (map (waiter_of h) (k ∷ ks))) ≡ map (answer_to h) (filter (λ k. not (waits_for_end k h) || false) (k ∷ ks))
      by_wait true e rest = rw e rest
      by_wait false e rest =
          let this : AnswerPlaced k ≡ answer_to h k = sym (ap (λ b. cond b (AnswerDone k) (AnswerPlaced k)) e) in
          rw e (ap (λ es. AnswerPlaced k ∷ es) rest ∙ ap (λ x. x ∷ map (answer_to h) (filter (λ j. not (waits_for_end j h) || false) ks)) this)

  still_placed : (ks : List ℕ) → filter (λ w. w.wait) (map (waiter_of h) ks) ≡ map (waiter_of h) (filter (λ k. not (not (waits_for_end k h) || false)) ks)
  still_placed [] = refl
  still_placed (k ∷ ks) = by_wait (waits_for_end k h) refl (still_placed ks)
    where
      by_wait : (b : Bool) → waits_for_end k h ≡ b → filter (λ w. w.wait) (map (waiter_of h) ks) ≡ map (waiter_of h) (filter (λ k. not (not (waits_for_end k h) || false)) ks) → filter (λ w. w.wait) (map (waiter_of h) (k ∷ ks)) ≡ map (waiter_of h) (filter (λ k. not (not (waits_for_end k h) || false)) (k ∷ ks))
      by_wait true e rest =
          let this : record { cancel = k; wait = true } ≡ waiter_of h k = ap (λ b. record { cancel = k; wait = b }) (sym e) in
          rw e (ap (λ ws. record { cancel = k; wait = true } ∷ ws) rest ∙ ap (λ w. w ∷ map (waiter_of h) (filter (λ j. not (not (waits_for_end j h) || false)) ks)) this)
      by_wait false e rest = rw e rest

  no_messages : (node : ℕ) (ks : List ℕ) → messages_in node (placed_answers t (map (waiter_of h) ks)) ≡ []
  no_messages node [] = refl
  no_messages node (k ∷ ks) = by_wait (waits_for_end k h) refl (no_messages node ks)
    where
      by_wait : (b : Bool) → waits_for_end k h ≡ b → messages_in node (placed_answers t (map (waiter_of h) ks)) ≡ [] → messages_in node (placed_answers t (map (waiter_of h) (k ∷ ks))) ≡ []
      by_wait true e rest = rw e rest
      by_wait false e rest = rw e rest

  -- once it has
  module _ (receipt : ReceiptParts) where
    answers_done : (ks : List ℕ) → filter_map answer_in (map (answer_act t receipt) (map (waiter_of h) ks)) ≡ map (answer_to h) ks
    answers_done [] = refl
    answers_done (k ∷ ks) = by_wait (waits_for_end k h) refl (answers_done ks)
      where
        by_wait : (b : Bool) → waits_for_end k h ≡ b → filter_map answer_in (map (answer_act t receipt) (map (waiter_of h) ks)) ≡ map (answer_to h) ks → filter_map answer_in (map (answer_act t receipt) (map (waiter_of h) (k ∷ ks))) ≡ map (answer_to h) (k ∷ ks)
        by_wait true e rest = rw e (ap (λ es. AnswerDone k ∷ es) rest)
        by_wait false e rest = rw e (ap (λ es. AnswerPlaced k ∷ es) rest)

    no_messages_done : (node : ℕ) (ks : List ℕ) → messages_in node (map (answer_act t receipt) (map (waiter_of h) ks)) ≡ []
    no_messages_done node [] = refl
    no_messages_done node (k ∷ ks) = by_wait (waits_for_end k h) refl (no_messages_done node ks)
      where
        by_wait : (b : Bool) → waits_for_end k h ≡ b → messages_in node (map (answer_act t receipt) (map (waiter_of h) ks)) ≡ [] → messages_in node (map (answer_act t receipt) (map (waiter_of h) (k ∷ ks))) ≡ []
        by_wait true e rest = rw e rest
        by_wait false e rest = rw e rest

  all_due : (ks : List ℕ) → filter (λ k. not (waits_for_end k h) || true) ks ≡ ks
  all_due [] = refl
  all_due (k ∷ ks) = by_wait (waits_for_end k h) refl (all_due ks)
    where
      by_wait : (b : Bool) → waits_for_end k h ≡ b → filter (λ k. not (waits_for_end k h) || true) ks ≡ ks → filter (λ k. not (waits_for_end k h) || true) (k ∷ ks) ≡ k ∷ ks
      by_wait true e rest = rw e (ap (λ js. k ∷ js) rest)
      by_wait false e rest = rw e (ap (λ js. k ∷ js) rest)

  none_left_due : (ks : List ℕ) → filter (λ k. not (not (waits_for_end k h) || true)) ks ≡ []
  none_left_due [] = refl
  none_left_due (k ∷ ks) = by_wait (waits_for_end k h) refl (none_left_due ks)
    where
      by_wait : (b : Bool) → waits_for_end k h ≡ b → filter (λ k. not (not (waits_for_end k h) || true)) ks ≡ [] → filter (λ k. not (not (waits_for_end k h) || true)) (k ∷ ks) ≡ []
      by_wait true e rest = rw e rest
      by_wait false e rest = rw e rest

  no_answers : (ns : List ℕ) → filter_map answer_in (unban_acts t ns) ≡ []
  no_answers [] = refl
  no_answers (n ∷ ns) = no_answers ns

  unbans : (node : ℕ) (past : List Event) (ns : List ℕ) → map (message_of past) (messages_in node (unban_acts t ns)) ≡ map Some (map (Unban t) ns)
  unbans node past [] = refl
  unbans node past (n ∷ ns) = ap (λ ms. Some (Unban t n) ∷ ms) (unbans node past ns)

-- where the core knows all that wait for the cancellation, also those that need not wait any more
module _ (ks : List ℕ) (t : TaskId) (h : List Event) (c : Cancellation) (known : IsCancellationOf ks t h c) where
  -- the core knows whether the bans are placed
  pub knows_placed : is_placed c ≡ bans_are_placed t h
  knows_placed = rw (known.0, known.2) (none_left (λ n. is_acked n t h) (banned_nodes t h))

  -- and whether the task has stopped
  pub knows_stopped : is_stopped c ≡ has_stopped t h
  knows_stopped = (λ i. knows_placed i || known.4 i) ∙ either_way (bans_are_placed t h) (has_ended t h)
    where
      either_way : (a b : Bool) → (a || b) ≡ (b || a)
      either_way true true = refl
      either_way true false = refl
      either_way false true = refl
      either_way false false = refl

  acts_answer : (placed : Bool) (o : Option ReceiptParts) (ended : Bool) → is_placed c ≡ placed → bans_are_placed t h ≡ placed → c.receipt ≡ o → is_some o ≡ ended → has_ended t h ≡ ended
      → filter_map answer_in (due_acts t c) ≡ map (answer_to h) (filter (λ k. bans_are_placed t h && (not (waits_for_end k h) || has_ended t h)) ks)
  acts_answer false o ended p q r s e = rw (p, q) (sym (ap (map (answer_to h)) (none_pass ks)))
  acts_answer true None ended p q r s e = let f = e ∙ sym s in rw (p, q, r, f, known.3) (answers_placed t h ks)
  acts_answer true (Some receipt) ended p q r s e = let f = e ∙ sym s in rw (p, q, r, f, known.3) (of_all ks)
    where
      of_all : (ks : List ℕ) → filter_map answer_in (unban_acts t c.banned ++ map (answer_act t receipt) (map (waiter_of h) ks)) ≡ map (answer_to h) (filter (λ k. not (waits_for_end k h) || true) ks)
      of_all ks =
          filter_map-append answer_in (unban_acts t c.banned) (map (answer_act t receipt) (map (waiter_of h) ks))
          ∙ ap (λ es. es ++ filter_map answer_in (map (answer_act t receipt) (map (waiter_of h) ks))) (no_answers t h c.banned)
          ∙ answers_done t h receipt ks ∙ sym (ap (map (answer_to h)) (all_due t h ks))

  pub due_answered : offered_in (due_acts t c) ≡ map (answer_to h) (filter (λ k. is_through h k t) ks)
  due_answered = acts_answer (is_placed c) c.receipt _ refl (sym knows_placed) refl refl (sym known.4)

  acts_send : (node : ℕ) (past : List Event) (placed : Bool) (o : Option ReceiptParts) (ended : Bool) → is_placed c ≡ placed → bans_are_placed t h ≡ placed → c.receipt ≡ o → is_some o ≡ ended → has_ended t h ≡ ended
      → map (message_of past) (messages_in node (due_acts t c)) ≡ map Some (unbans_from t h)
  acts_send node past false o true p q r s e = rw (p, q, e) refl
  acts_send node past false o false p q r s e = rw (p, q, e) refl
  acts_send node past true None ended p q r s e = let f = e ∙ sym s in rw (p, q, r, f, known.3) (ap (map (message_of past)) (no_messages t h node ks))
  acts_send node past true (Some receipt) ended p q r s e = let f = e ∙ sym s in rw (p, q, r, f, known.3, known.1) (of_all ks (banned_nodes t h))
    where
      of_all : (ks ns : List ℕ) → map (message_of past) (messages_in node (unban_acts t ns ++ map (answer_act t receipt) (map (waiter_of h) ks))) ≡ map Some (map (Unban t) ns)
      of_all ks ns =
          ap (map (message_of past)) (filter_map-append (message_in node) (unban_acts t ns) (map (answer_act t receipt) (map (waiter_of h) ks))
          ∙ ap (λ ms. messages_in node (unban_acts t ns) ++ ms) (no_messages_done t h receipt node ks) ∙ append-nil (messages_in node (unban_acts t ns)))
          ∙ unbans t h node past ns

  pub due_sent : (node : ℕ) (past : List Event) → map (message_of past) (messages_in node (due_acts t c)) ≡ map Some (unbans_from t h)
  due_sent node past = acts_send node past (is_placed c) c.receipt _ refl (sym knows_placed) refl refl (sym known.4)

  acts_leave : (placed : Bool) (o : Option ReceiptParts) (ended : Bool) → is_placed c ≡ placed → bans_are_placed t h ≡ placed → c.receipt ≡ o → is_some o ≡ ended → has_ended t h ≡ ended
      → IsEntryOf (filter (λ k. not (is_through h k t)) ks) t h (rest_of c)
  acts_leave false o true p q r s e = rw (p, q, e) (rw known.0 refl, (known.0, known.1, known.2, known.3 ∙ ap (map (waiter_of h)) (sym (all_pass ks)), known.4 ∙ e))
  acts_leave false o false p q r s e = rw (p, q, e) (rw known.0 refl, (known.0, known.1, known.2, known.3 ∙ ap (map (waiter_of h)) (sym (all_pass ks)), known.4 ∙ e))
  acts_leave true None ended p q r s e =
      let f = e ∙ sym s in
      rw (p, q, r, f) (rw known.0 refl, (known.0, known.1, known.2, ap (filter (λ w. w.wait)) known.3 ∙ still_placed t h ks, refl))
  acts_leave true (Some receipt) ended p q r s e = let f = e ∙ sym s in rw (p, r, q, f) (rw known.0 refl, none_left_due t h ks)

  pub due_left : IsEntryOf (filter (λ k. not (is_through h k t)) ks) t h (rest_of c)
  due_left = acts_leave (is_placed c) c.receipt _ refl (sym knows_placed) refl refl (sym known.4)
