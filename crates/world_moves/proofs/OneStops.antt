-- What happens to the listings that wait where one task, at most, stops.
use Rattle.std.proofs.Common.{◌≡◌, ◌≢◌, ◌⊎◌, ◌+◌, ◌-◌, ◌≤◌, ◌<◌, ℕ, Bool, true, false, cond, not, List, [], ◌∷◌, Option, Some, None, refl, sym, ap, subst, ◌∙◌, inl, inr, arith}
use Rattle.std.specs.Prelude.{◌==◌, ◌&&◌, nat_lt, option_and_then}
use Rattle.std.specs.List.{list_any}
use Rattle.task_ids.specs.declared.task_id.TaskId.{TaskId}
use Rattle.task_events.specs.declared.event.Event.{Event}
use Rattle.task_events.specs.declared.event.Event.TheVariants.{Listed}
use Rattle.task_events.specs.Same.{same_task, same_pair}
use Rattle.task_events.specs.Tasks.{parent_of}
use Rattle.task_events.specs.Bans.{is_listed, is_stopped, listed_children, ack_is_due}
use Rattle.task_events.specs.Messages.{ack_over}
use Rattle.task_events.specs.Messages.Message.{Ack}
use Rattle.task_laws.proofs.Dues.{due_is, unstopped_is, stops_now}
use Rattle.task_laws.proofs.Numbers.{number}
use Rattle.task_laws.proofs.Same.{same_task_tells, same_tests}
use Rattle.task_laws.proofs.Stops as stops
use Rattle.task_laws.proofs.Stops.{StopFacts, times_listed, listed_over}
use Rattle.world_moves.specs.Listings.{unstopped, is_awaited, listing_over}

-- After what happened every other task is as stopped as before, and nothing else of the listings is another.
pub record StopsAtMost (t : TaskId) (h past : List Event) : Type 0 where
  pub parents : (u : TaskId) → parent_of u past ≡ parent_of u h
  pub listed : (n : ℕ) (p : TaskId) → is_listed n p past ≡ is_listed n p h
  pub children : (n : ℕ) (p : TaskId) → listed_children n p past ≡ listed_children n p h
  pub others : (u : TaskId) → u ≢ t → not (is_stopped u past) ≡ not (is_stopped u h)
  pub for_good : is_stopped t h ≡ true → is_stopped t past ≡ true
  pub numbers : (n : ℕ) (p : TaskId) → stops.unstopped n p past + cond (stops_now t h past) (times_listed n p t h) 0 ≡ stops.unstopped n p h

-- Each listing waits for whom it did before.
pub record ListingsStay (h past : List Event) : Type 0 where
  pub over : (u : TaskId) → listing_over u past ≡ listing_over u h
  pub numbers : (n : ℕ) (p : TaskId) → unstopped n p past ≡ unstopped n p h

-- Each listing waits for whom it did before, but for the task, for which that for p does no more.
pub record ListingLeft (t p : TaskId) (h past : List Event) : Type 0 where
  pub own : listing_over t past ≡ None
  pub over : (u : TaskId) → u ≢ t → listing_over u past ≡ listing_over u h
  pub number : unstopped t.node p past ≡ unstopped t.node p h - 1
  pub numbers : (n : ℕ) (q : TaskId) → same_pair p t.node q n ≡ false → unstopped n q past ≡ unstopped n q h

-- a task that is found in a list is counted there
pub stands_in : (t : TaskId) (ts : List TaskId) → list_any (same_task t) ts ≡ true → 0 < number (same_task t) ts
stands_in t [] e = absurd (cc)
stands_in t (u ∷ ts) e = let rest = stands_in t ts in grind (arith, rest)

pub stands_out : (t : TaskId) (ts : List TaskId) → list_any (same_task t) ts ≡ false → number (same_task t) ts ≡ 0
stands_out t [] e = refl
stands_out t (u ∷ ts) e = let rest = stands_out t ts in grind (arith, rest)

-- nothing is listed before the listing ends
pub none_listed : (n : ℕ) (p : TaskId) (h : List Event) → is_listed n p h ≡ false → listed_children n p h ≡ []
none_listed n p [] e = refl
none_listed n p (Listed m q ∷ h) e = let rest = none_listed n p h in grind (arith, rest)
none_listed n p (_ ∷ h) e = none_listed n p h e

-- what the parent whose listing waits tells
over_tells : (t p : TaskId) (h : List Event) (o : Option TaskId) → parent_of t h ≡ o → option_and_then (λ q. cond (is_awaited t q h) (Some q) None) o ≡ Some p → (parent_of t h ≡ Some p) × (is_awaited t p h ≡ true)
over_tells t p h None is e = absurd (cc)
over_tells t p h (Some q) is e = by_wait (is_awaited t q h) refl
  where
    by_wait : (b : Bool) → is_awaited t q h ≡ b → (parent_of t h ≡ Some p) × (is_awaited t p h ≡ true)
    by_wait true waits =
        let same : q ≡ p = let found = rw waits at e in cc in
        (is ∙ ap Some same, ap (λ x. is_awaited t x h) (sym same) ∙ waits)
    by_wait false waits = absurd (let found = rw waits at e in cc)

-- that none waits
over_none : (t p : TaskId) (h : List Event) → parent_of t h ≡ Some p → listing_over t h ≡ None → is_awaited t p h ≡ false
over_none t p h is none = by_wait (is_awaited t p h) refl
  where
    by_wait : (b : Bool) → is_awaited t p h ≡ b → is_awaited t p h ≡ false
    by_wait true waits = absurd (let found = rw (is, waits) at none in cc)
    by_wait false waits = waits

-- whether the acknowledgement is due
pub due_counted : (n : ℕ) (p : TaskId) (h : List Event) → ack_is_due n p h ≡ (is_listed n p h && (unstopped n p h == 0))
due_counted n p h = due_is n p h ∙ ap (λ k. is_listed n p h && (k == 0)) (sym (unstopped_is n p h))

module _ (t : TaskId) (h past : List Event) (facts : StopFacts h) (at_most : StopsAtMost t h past) where
  -- how many the listing waits for no more
  abbrev pub fewer : ℕ → TaskId → ℕ
  fewer n p = cond (stops_now t h past) (times_listed n p t h) 0

  counted : (n : ℕ) (p : TaskId) → unstopped n p past + fewer n p ≡ unstopped n p h
  counted n p = ap (λ k. k + fewer n p) (unstopped_is n p past) ∙ at_most.numbers n p ∙ sym (unstopped_is n p h)

  none_fewer : (n : ℕ) (p : TaskId) → fewer n p ≡ 0 → unstopped n p past ≡ unstopped n p h
  none_fewer n p none = let all = counted n p in omega (arith, all, none)

  not_there : (n : ℕ) (p : TaskId) → list_any (same_task t) (listed_children n p h) ≡ false → fewer n p ≡ 0
  not_there n p e = ap (λ k. cond (stops_now t h past) k 0) (stands_out t (listed_children n p h) e) ∙ no_one (stops_now t h past)
    where
      no_one : (b : Bool) → cond {A = ℕ} b 0 0 ≡ 0
      no_one true = refl
      no_one false = refl

  child_there : (n : ℕ) (p : TaskId) → list_any (same_task t) (listed_children n p h) ≡ true → (parent_of t h ≡ Some p) × (t.node ≡ n)
  child_there n p e = listed_over n p t h facts (stands_in t (listed_children n p h) e)

  -- the listings on other nodes
  pub other_node : (n : ℕ) (p : TaskId) → n ≢ t.node → unstopped n p past ≡ unstopped n p h
  other_node n p apart = by_listed (list_any (same_task t) (listed_children n p h)) refl
    where
      by_listed : (b : Bool) → list_any (same_task t) (listed_children n p h) ≡ b → unstopped n p past ≡ unstopped n p h
      by_listed true e = absurd (apart (sym (child_there n p e).1))
      by_listed false e = none_fewer n p (not_there n p e)

  pub others_over : (u : TaskId) → u ≢ t → listing_over u past ≡ listing_over u h
  others_over u apart = ap (option_and_then (λ p. cond (is_awaited u p past) (Some p) None)) (at_most.parents u) ∙ by_parent (parent_of u h)
    where
      by_parent : (o : Option TaskId) → option_and_then (λ p. cond (is_awaited u p past) (Some p) None) o ≡ option_and_then (λ p. cond (is_awaited u p h) (Some p) None) o
      by_parent None = refl
      by_parent (Some p) = λ i. cond (list_any (same_task u) (at_most.children u.node p i) && at_most.others u apart i) (Some p) None

  -- a task for which no listing waits
  pub not_awaited : listing_over t h ≡ None → (n : ℕ) (p : TaskId) → fewer n p ≡ 0
  not_awaited none n p = by_listed (list_any (same_task t) (listed_children n p h)) refl
    where
      by_listed : (b : Bool) → list_any (same_task t) (listed_children n p h) ≡ b → fewer n p ≡ 0
      by_listed false e = not_there n p e
      by_listed true e =
          let child = child_there n p e in
          let waits = ap (λ m. list_any (same_task t) (listed_children m p h) && not (is_stopped t h)) (sym child.1) ∙ over_none t p h child.0 none in
          grind (arith, waits, e)

  -- ---- where no listing waits for the task, or it has not stopped
  module _ (none : (n : ℕ) (p : TaskId) → fewer n p ≡ 0) where
    pub listings_stay : ListingsStay h past
    listings_stay = record { over = λ u. by_task u (same_task_tells u t); numbers = λ n p. none_fewer n p (none n p) }
      where
        own_awaited : (p : TaskId) → is_awaited t p past ≡ is_awaited t p h
        own_awaited p = ap (λ ts. list_any (same_task t) ts && not (is_stopped t past)) (at_most.children t.node p) ∙ by_listed (list_any (same_task t) (listed_children t.node p h)) refl
          where
            by_listed : (b : Bool) → list_any (same_task t) (listed_children t.node p h) ≡ b → (b && not (is_stopped t past)) ≡ (b && not (is_stopped t h))
            by_listed true e = let some = stands_in t (listed_children t.node p h) e in let gone = none t.node p in grind (arith, some, gone, at_most.for_good)
            by_listed false e = refl

        own : (o : Option TaskId) → option_and_then (λ p. cond (is_awaited t p past) (Some p) None) o ≡ option_and_then (λ p. cond (is_awaited t p h) (Some p) None) o
        own None = refl
        own (Some p) = ap (λ b. cond b (Some p) None) (own_awaited p)

        by_task : (u : TaskId) → ((same_task u t ≡ true) × (u ≡ t)) ⊎ ((same_task u t ≡ false) × (u ≢ t)) → listing_over u past ≡ listing_over u h
        by_task u (inl (is_one, same)) = subst (λ x. listing_over x past ≡ listing_over x h) (sym same) (ap (option_and_then (λ p. cond (is_awaited t p past) (Some p) None)) (at_most.parents t) ∙ own (parent_of t h))
        by_task u (inr (differs, apart)) = others_over u apart

    pub no_ack : (o : Option TaskId) (n : ℕ) → ack_over o n h past ≡ []
    no_ack None n = refl
    no_ack (Some p) n = ap (λ b. cond (b && not (ack_is_due n p h)) (Ack p n ∷ []) []) same ∙ never (ack_is_due n p h)
      where
        same : ack_is_due n p past ≡ ack_is_due n p h
        same = due_counted n p past ∙ (λ i. at_most.listed n p i && (none_fewer n p (none n p) i == 0)) ∙ sym (due_counted n p h)

        never : (b : Bool) → cond (b && not b) (Ack p n ∷ []) [] ≡ []
        never true = refl
        never false = refl

  -- ---- where the listing for a parent waits for it, and it has stopped
  module _ (p : TaskId) (waits : listing_over t h ≡ Some p) (stopped : is_stopped t past ≡ true) where
    parent : parent_of t h ≡ Some p
    parent = (over_tells t p h (parent_of t h) refl waits).0

    -- it was listed, and had not stopped
    was : (list_any (same_task t) (listed_children t.node p h) ≡ true) × (is_stopped t h ≡ false)
    was = let awaited = (over_tells t p h (parent_of t h) refl waits).1 in (grind (arith, awaited), grind (arith, awaited))

    one_less : unstopped t.node p past + 1 ≡ unstopped t.node p h
    one_less =
        let all = counted t.node p in
        let open_still = was.1 in
        let least = stands_in t (listed_children t.node p h) was.0 in
        let most = facts.listed_put t.node p t in
        grind (arith, all, open_still, stopped, least, most)

    pub listing_left : ListingLeft t p h past
    listing_left = record { own = own; over = others_over; number = let less = one_less in omega (arith, less); numbers = elsewhere }
      where
        own : listing_over t past ≡ None
        own = rw (at_most.parents t ∙ parent, stopped) (by_listed (list_any (same_task t) (listed_children t.node p past)))
          where
            by_listed : (b : Bool) → cond (b && false) (Some p) None ≡ None
            by_listed true = refl
            by_listed false = refl

        elsewhere : (n : ℕ) (q : TaskId) → same_pair p t.node q n ≡ false → unstopped n q past ≡ unstopped n q h
        elsewhere n q apart = by_listed (list_any (same_task t) (listed_children n q h)) refl
          where
            by_listed : (b : Bool) → list_any (same_task t) (listed_children n q h) ≡ b → unstopped n q past ≡ unstopped n q h
            by_listed true e =
                let child = child_there n q e in
                let same : p ≡ q = let is = sym parent ∙ child.0 in cc in
                absurd (let node = child.1 in grind (arith, same_tests, apart, same))
            by_listed false e = none_fewer n q (not_there n q e)

    pub its_ack : ack_over (parent_of t h) t.node h past ≡ cond (nat_lt 1 (unstopped t.node p h)) [] (Ack p t.node ∷ [])
    its_ack = ap (λ o. ack_over o t.node h past) parent ∙ (λ i. cond (now i && not (before i)) (Ack p t.node ∷ []) []) ∙ by_number
      where
        has_listed : is_listed t.node p h ≡ true
        has_listed = by_listed (is_listed t.node p h) refl
          where
            by_listed : (b : Bool) → is_listed t.node p h ≡ b → is_listed t.node p h ≡ true
            by_listed true e = e
            by_listed false e = absurd (let found = rw (none_listed t.node p h e) at was.0 in cc)

        now : ack_is_due t.node p past ≡ (unstopped t.node p past == 0)
        now = due_counted t.node p past ∙ ap (λ b. b && (unstopped t.node p past == 0)) (at_most.listed t.node p ∙ has_listed)

        before : ack_is_due t.node p h ≡ (unstopped t.node p h == 0)
        before = due_counted t.node p h ∙ ap (λ b. b && (unstopped t.node p h == 0)) has_listed

        by_number : cond ((unstopped t.node p past == 0) && not (unstopped t.node p h == 0)) (Ack p t.node ∷ []) [] ≡ cond (nat_lt 1 (unstopped t.node p h)) [] (Ack p t.node ∷ [])
        by_number = let less = one_less in grind (arith, same_tests, less)
