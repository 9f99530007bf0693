-- What a core knows of the listings that wait, once a listing has ended.
use Rattle.std.proofs.Common.{◌≡◌, ◌≢◌, ◌⊎◌, ◌+◌, ◌≤◌, ◌<◌, ℕ, Bool, true, false, cond, not, List, [], ◌∷◌, map, Option, Some, None, refl, sym, ap, ◌∙◌, inl, inr, arith}
use Rattle.std.specs.Prelude.{◌==◌, ◌&&◌, nat_lt, is_some, count_by, option_and_then}
use Rattle.std.specs.List.{list_any}
use Rattle.std.specs.FinMap.{get}
use Rattle.task_ids.specs.declared.task_id.TaskId.{TaskId}
use Rattle.cancel_core.specs.declared.act.Act.TheVariants.{SendAck}
use Rattle.cancel_core.specs.Cancellations.{Cancellations}
use Rattle.cancel_core.specs.Listings.{is_awaited as is_open_entry, is_to_note, noted, number_noted, with_number, with_listing, listing_act}
use Rattle.task_events.specs.declared.event.Event.{Event}
use Rattle.task_events.specs.declared.event.Event.TheVariants.{Listed}
use Rattle.task_events.specs.Same.{same_task, same_pair}
use Rattle.task_events.specs.Tasks.{is_live, parent_of}
use Rattle.task_events.specs.Bans.{is_listed, is_stopped, put_for, listed_children, ack_is_due}
use Rattle.task_events.specs.Messages.{ack_from}
use Rattle.task_events.specs.Messages.Message.{Ack}
use Rattle.task_laws.proofs.Dues.{unstopped_is, after_listed, as_many}
use Rattle.task_laws.proofs.Numbers.{number}
use Rattle.task_laws.proofs.Same.{same_task_tells, same_pair_refl, same_tests}
use Rattle.task_laws.proofs.Stops as stops
use Rattle.task_laws.proofs.Stops.{StopFacts, is_put_for, put_over}
use Rattle.world_moves.specs.Acts.{messages_of}
use Rattle.world_moves.specs.Cancelling.{KnowsListings, if_any}
use Rattle.world_moves.specs.Flights.{message_of}
use Rattle.world_moves.specs.Listings.{unstopped, is_awaited, listing_over}
use Rattle.world_moves.proofs.Noted.{noted_at, number_noted_is, as_many_in}
use Rattle.world_moves.proofs.OneStops.{none_listed, stands_in, stands_out, due_counted}
use Rattle.world_moves.proofs.WaitsAfter.{number_at}

-- ---- the other listings

module _ (n : ℕ) (p : TaskId) (h : List Event) where
  same_children : (m : ℕ) (q : TaskId) → same_pair q m p n ≡ false → listed_children m q (Listed n p ∷ h) ≡ listed_children m q h
  same_children m q apart = ap (λ b. cond b (put_for m q h) (listed_children m q h)) apart

  same_number : (m : ℕ) (q : TaskId) → same_pair q m p n ≡ false → unstopped m q (Listed n p ∷ h) ≡ unstopped m q h
  same_number m q apart = ap (count_by (λ t. not (is_stopped t h))) (same_children m q apart)

  same_over : (u : TaskId) → ((q : TaskId) → parent_of u h ≡ Some q → same_pair q u.node p n ≡ false) → listing_over u (Listed n p ∷ h) ≡ listing_over u h
  same_over u apart = by_parent (parent_of u h) refl
    where
      by_parent : (o : Option TaskId) → parent_of u h ≡ o → option_and_then (λ q. cond (is_awaited u q (Listed n p ∷ h)) (Some q) None) o ≡ option_and_then (λ q. cond (is_awaited u q h) (Some q) None) o
      by_parent None e = refl
      by_parent (Some q) e = ap (λ ts. cond (list_any (same_task u) ts && not (is_stopped u h)) (Some q) None) (same_children u.node q (apart q e))

  -- what the core of another node knows
  pub known_elsewhere : (m : ℕ) → m ≢ n → (core : Cancellations) → KnowsListings m h core → KnowsListings m (Listed n p ∷ h) core
  known_elsewhere m apart core known = record {
    waits = λ u on. known.waits u on ∙ sym (same_over u (λ q e. let other : u.node ≢ n = λ same. apart (sym on ∙ same) in grind (arith, same_tests, other)));
    numbers = λ q. known.numbers q ∙ ap if_any (sym (same_number m q (grind (arith, same_tests, apart))));
  }

  -- ---- the listing that ended

  -- the children that are listed are those that were put and are live; and the core knows which of them have not stopped
  module _ (facts : StopFacts h) (unlisted : is_listed n p h ≡ false) (core : Cancellations) (known : KnowsListings n h core) (ts : List TaskId)
      (are : (u : TaskId) → number (same_task u) ts ≡ cond (is_put_for n p u h && is_live u h) 1 0) (lives : (u : TaskId) → is_put_for n p u h ≡ true → is_stopped u h ≡ false → is_live u h ≡ true)
      (tells : (u : TaskId) → is_put_for n p u h ≡ true → is_open_entry (get core.entries u) ≡ not (is_stopped u h)) where
    -- no listing waits yet for a child of p there
    none_yet : (u : TaskId) → is_put_for n p u h ≡ true → get core.waits u ≡ None
    none_yet u put =
        let child = put_over n p u h put in
        known.waits u child.1 ∙ ap (option_and_then (λ q. cond (is_awaited u q h) (Some q) None)) child.0
        ∙ ap (λ ts. cond (list_any (same_task u) ts && not (is_stopped u h)) (Some p) None) (ap (λ m. listed_children m p h) child.1 ∙ none_listed n p h unlisted)

    to_note : (u : TaskId) → is_put_for n p u h ≡ true → is_to_note core.entries core.waits u ≡ not (is_stopped u h)
    to_note u put = ap (λ o. is_open_entry (get core.entries u) && not (is_some o)) (none_yet u put) ∙ ap (λ b. b && true) (tells u put) ∙ no_less (not (is_stopped u h))
      where
        no_less : (b : Bool) → (b && true) ≡ b
        no_less true = refl
        no_less false = refl

    once : (u : TaskId) → number (same_task u) ts ≤ 1
    once u = let all = are u in grind (arith, all)

    stands : (u : TaskId) → 0 < number (same_task u) ts → is_put_for n p u h ≡ true
    stands u some = let all = are u in grind (arith, all, some)

    both : (u : TaskId) → not (is_stopped u h) ≡ true → number (same_task u) ts ≡ number (same_task u) (put_for n p h)
    both u open_still = let listed = are u in let put = facts.put_once n p u in let live = lives u in grind (arith, listed, put, live, open_still)

    -- the core notes those that have not stopped
    noted_number : number_noted core.entries p ts core.waits ≡ unstopped n p (Listed n p ∷ h)
    noted_number = number_noted_is core.entries p ts core.waits once
        ∙ as_many (λ t. not (is_stopped t h)) (is_to_note core.entries core.waits) ts (λ u some. to_note u (stands u some))
        ∙ as_many_in (λ t. not (is_stopped t h)) ts (put_for n p h) once both
        ∙ sym (unstopped_is n p (Listed n p ∷ h) ∙ after_listed n p n p h ∙ ap (λ b. cond b (number (λ t. not (is_stopped t h)) (put_for n p h)) (stops.unstopped n p h)) (same_pair_refl p n))

    waits : (u : TaskId) → u.node ≡ n → get (noted core.entries p ts core.waits) u ≡ listing_over u (Listed n p ∷ h)
    waits u on = noted_at core.entries p ts core.waits u ∙ by_put (is_put_for n p u h) refl
      where
        by_put : (b : Bool) → is_put_for n p u h ≡ b → cond (list_any (same_task u) ts && is_to_note core.entries core.waits u) (Some p) (get core.waits u) ≡ listing_over u (Listed n p ∷ h)
        by_put true put =
            (λ i. cond (list_any (same_task u) ts && to_note u put i) (Some p) (none_yet u put i)) ∙ ap (λ b. cond b (Some p) None) (among (list_any (same_task u) ts) refl)
            ∙ sym (ap (option_and_then (λ q. cond (is_awaited u q (Listed n p ∷ h)) (Some q) None)) child.0 ∙ ap (λ b. cond (b && not (is_stopped u h)) (Some p) None) listed)
          where
            child : (parent_of u h ≡ Some p) × (u.node ≡ n)
            child = put_over n p u h put

            listed : list_any (same_task u) (listed_children u.node p (Listed n p ∷ h)) ≡ true
            listed = ap (λ m. list_any (same_task u) (listed_children m p (Listed n p ∷ h))) child.1 ∙ ap (λ b. list_any (same_task u) (cond b (put_for n p h) (listed_children n p h))) (same_pair_refl p n)
                ∙ by_list (list_any (same_task u) (put_for n p h)) refl
              where
                by_list : (b : Bool) → list_any (same_task u) (put_for n p h) ≡ b → list_any (same_task u) (put_for n p h) ≡ true
                by_list true e = e
                by_list false e = absurd (let none = stands_out u (put_for n p h) e in let one = facts.put_once n p u in grind (arith, none, one, put))

            among : (b : Bool) → list_any (same_task u) ts ≡ b → (b && not (is_stopped u h)) ≡ not (is_stopped u h)
            among true e = refl
            among false e = let none = stands_out u ts e in let all = are u in let live = lives u put in grind (arith, none, all, live, put)
        by_put false out =
            let none : list_any (same_task u) ts ≡ false = by_list (list_any (same_task u) ts) refl in
            ap (λ b. cond (b && is_to_note core.entries core.waits u) (Some p) (get core.waits u)) none ∙ known.waits u on ∙ sym (same_over u apart)
          where
            by_list : (b : Bool) → list_any (same_task u) ts ≡ b → list_any (same_task u) ts ≡ false
            by_list true e = absurd (let some = stands_in u ts e in let all = are u in grind (arith, some, all, out))
            by_list false e = e

            apart : (q : TaskId) → parent_of u h ≡ Some q → same_pair q u.node p n ≡ false
            apart q e = let parent = rw e at out in grind (arith, same_tests, parent)

    pub listed_known : KnowsListings n (Listed n p ∷ h) (with_listing core p ts)
    listed_known = record { waits = waits; numbers = λ q. by_parent q (same_task_tells q p) }
      where
        by_parent : (q : TaskId) → ((same_task q p ≡ true) × (q ≡ p)) ⊎ ((same_task q p ≡ false) × (q ≢ p)) → get (with_number core.listings p (number_noted core.entries p ts core.waits)) q ≡ if_any (unstopped n q (Listed n p ∷ h))
        by_parent q (inl (is_one, same)) = number_at core.listings p (number_noted core.entries p ts core.waits) q ∙ ap (λ b. cond b (if_any (number_noted core.entries p ts core.waits)) (get core.listings q)) is_one
            ∙ ap if_any noted_number ∙ ap (λ x. if_any (unstopped n x (Listed n p ∷ h))) (sym same)
        by_parent q (inr (differs, apart)) = number_at core.listings p (number_noted core.entries p ts core.waits) q ∙ ap (λ b. cond b (if_any (number_noted core.entries p ts core.waits)) (get core.listings q)) differs
            ∙ known.numbers q ∙ ap if_any (sym (same_number n q (grind (arith, same_tests, differs))))

    -- the ban is acknowledged at once where all of them have stopped
    pub ack_at_once : (x : List Event) → map (message_of x) (messages_of n (listing_act core p ts)) ≡ map Some (ack_from n p h (Listed n p ∷ h))
    ack_at_once x = ap (λ k. map (message_of x) (messages_of n (cond (nat_lt 0 k) None (Some (SendAck p.node p))))) noted_number ∙ by_number (unstopped n p (Listed n p ∷ h)) ∙ sym (ap (λ b. map Some (cond b (Ack p n ∷ []) [])) falls_due)
      where
        falls_due : (ack_is_due n p (Listed n p ∷ h) && not (ack_is_due n p h)) ≡ (unstopped n p (Listed n p ∷ h) == 0)
        falls_due =
            let now = due_counted n p (Listed n p ∷ h) ∙ ap (λ b. cond b true (is_listed n p h) && (unstopped n p (Listed n p ∷ h) == 0)) (same_pair_refl p n) in
            let before : ack_is_due n p h ≡ false = due_counted n p h ∙ ap (λ b. b && (unstopped n p h == 0)) unlisted in
            (λ i. now i && not (before i)) ∙ no_less (unstopped n p (Listed n p ∷ h) == 0)
          where
            no_less : (b : Bool) → (b && true) ≡ b
            no_less true = refl
            no_less false = refl

        by_number : (k : ℕ) → map (message_of x) (messages_of n (cond (nat_lt 0 k) None (Some (SendAck p.node p)))) ≡ map Some (cond (k == 0) (Ack p n ∷ []) [])
        by_number k = by_test (nat_lt 0 k) (k == 0) (grind (arith, same_tests))
          where
            by_test : (b c : Bool) → b ≡ not c → map (message_of x) (messages_of n (cond b None (Some (SendAck p.node p)))) ≡ map Some (cond c (Ack p n ∷ []) [])
            by_test true true e = absurd (cc)
            by_test true false e = refl
            by_test false true e = refl
            by_test false false e = absurd (cc)
