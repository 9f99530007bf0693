-- What a task has asked for, by the numbers of its asks.
use Rattle.std.proofs.Common.{◌≡◌, ◌≢◌, ◌⊎◌, ◌<◌, ℕ, zero, suc, ◌+◌, ◌-◌, Bool, true, false, cond, List, [], ◌∷◌, ◌++◌, length, get_or, Option, Some, None, refl, sym, ap, ◌∙◌, inl, inr, arith}
use Rattle.std.specs.Prelude.{◌==◌, is_some, slice_set, slice_get}
use Rattle.std.proofs.lemmas.Bool.{eq-eqb, ne_eqb}
use Rattle.std.proofs.lemmas.List.{length-append, length-set, get_or-set_other}
use Rattle.std.proofs.Math.Seq.{get_or-append_seam}
use Rattle.task_ids.specs.declared.task_id.TaskId.{TaskId}
use Rattle.task_ids.specs.declared.cluster.Cluster.{Cluster}
use Rattle.task_events.specs.declared.request.Request.{Request}
use Rattle.task_events.specs.declared.event.Event.{Event}
use Rattle.task_events.specs.declared.event.Event.TheVariants.{Ask, Answered}
use Rattle.task_events.specs.Same.{same_task, same_pair}
use Rattle.task_events.specs.Asks.{last_ask, request_of_ask, is_unanswered}
use Rattle.task_events.specs.Messages.{is_answer, number_in_flight}
use Rattle.task_events.specs.Lawful.{Lawful}
use Rattle.task_laws.proofs.Same.{same_task_tells, same_pair_tells, same_tests}
use Rattle.task_laws.proofs.InFlight.{answers_in_flight}
use Rattle.task_laws.proofs.Asks.{AskFacts, ask_facts}
use Rattle.world_moves.specs.Facts.{awaited_by, requested_by}
use Rattle.world_moves.proofs.ByPlace.{push_at}

-- ---- lists that grow by one

pub length-grown : {X : Type 0} (xs : List X) (x : X) → length (xs ++ x ∷ []) ≡ length xs + 1
length-grown xs x = omega (arith, length-append xs (x ∷ []))

pub get_or-grown_other : (xs : List (Option ℕ)) (x : Option ℕ) (k : ℕ) → k ≢ length xs → get_or (xs ++ x ∷ []) k None ≡ get_or xs k None
get_or-grown_other [] x zero d = absurd (d (omega arith))
get_or-grown_other [] x (suc k) d = refl
get_or-grown_other (y ∷ ys) x zero d = refl
get_or-grown_other (y ∷ ys) x (suc k) d = get_or-grown_other ys x k (λ e. d (ap suc e))

pub get_or-set_none : (xs : List (Option ℕ)) (k : ℕ) → get_or (slice_set xs k None) k None ≡ None
get_or-set_none [] k = refl
get_or-set_none (x ∷ xs) zero = refl
get_or-set_none (x ∷ xs) (suc k) = get_or-set_none xs k

-- ---- as many as the number of the last ask

pub counted : {X : Type 0} (t p : TaskId) (h : List Event) (xs : List X) (x : X) (k : ℕ) → k ≡ last_ask p h + 1 → length xs ≡ last_ask t h
    → length (cond (same_task t p) (xs ++ x ∷ []) xs) ≡ cond (same_task t p) k (last_ask t h)
counted t p h xs x k next so_far = by_case (same_task_tells t p)
  where
    by_case : ((same_task t p ≡ true) × (t ≡ p)) ⊎ ((same_task t p ≡ false) × (t ≢ p)) → length (cond (same_task t p) (xs ++ x ∷ []) xs) ≡ cond (same_task t p) k (last_ask t h)
    by_case (inl (is_one, same)) =
        let last : last_ask t h ≡ last_ask p h = ap (λ u. last_ask u h) same in
        let e : length (xs ++ x ∷ []) ≡ k = omega (arith, length-grown xs x) in
        rw is_one e
    by_case (inr (differs, apart)) = rw differs so_far

shortened : (b : Bool) (xs : List (Option ℕ)) (k n : ℕ) → length xs ≡ n → length (cond b (slice_set xs k None) xs) ≡ n
shortened true xs k n e = length-set xs k None ∙ e
shortened false xs k n e = e

module _ (cluster : Cluster) where
  pub awaited_counted : (t : TaskId) (h : List Event) → Lawful cluster h → length (awaited_by t h) ≡ last_ask t h
  awaited_counted t [] l = refl
  awaited_counted t (Ask p k n r ∷ h) l = counted t p h (awaited_by t h) (Some n) k l.0.next (awaited_counted t h l.1)
  awaited_counted t (Answered p k ∷ h) l = shortened (same_task t p) (awaited_by t h) (k - 1) (last_ask t h) (awaited_counted t h l.1)
  awaited_counted t (_ ∷ h) l = awaited_counted t h l.1

  pub requested_counted : (t : TaskId) (h : List Event) → Lawful cluster h → length (requested_by t h) ≡ last_ask t h
  requested_counted t [] l = refl
  requested_counted t (Ask p k n r ∷ h) l = counted t p h (requested_by t h) r k l.0.next (requested_counted t h l.1)
  requested_counted t (_ ∷ h) l = requested_counted t h l.1

  pair_apart : (t p : TaskId) (k j : ℕ) → t ≢ p → same_pair t k p j ≡ false
  pair_apart t p k j apart = grind (arith, same_tests)

  -- ---- the request of an ask, and whether it is unanswered, stand at its place

  requested_after : (t p : TaskId) (k j n : ℕ) (r : Request) (h : List Event) → j ≡ last_ask p h + 1 → length (requested_by t h) ≡ last_ask t h
      → request_of_ask t (k + 1) h ≡ slice_get (requested_by t h) k → ((same_task t p ≡ true) × (t ≡ p)) ⊎ ((same_task t p ≡ false) × (t ≢ p))
      → request_of_ask t (k + 1) (Ask p j n r ∷ h) ≡ slice_get (requested_by t (Ask p j n r ∷ h)) k
  requested_after t p k j n r h next as_many before (inl (is_one, same)) = by_number (same_pair_tells t (k + 1) p j)
    where
      last : last_ask t h ≡ last_ask p h
      last = ap (λ u. last_ask u h) same

      by_number : ((same_pair t (k + 1) p j ≡ true) × (t ≡ p) × (k + 1 ≡ j)) ⊎ ((same_pair t (k + 1) p j ≡ false) × (t ≡ p → k + 1 ≢ j)) → request_of_ask t (k + 1) (Ask p j n r ∷ h) ≡ slice_get (requested_by t (Ask p j n r ∷ h)) k
      by_number (inl (equal, one, number)) =
          let e : k ≡ length (requested_by t h) = omega (arith, last) in
          let last_one : (k == length (requested_by t h)) ≡ true = eq-eqb k (length (requested_by t h)) e in
          rw (is_one, equal) (sym (push_at (requested_by t h) r k ∙ ap (λ b. cond b (Some r) (slice_get (requested_by t h) k)) last_one))
      by_number (inr (differs, other)) =
          let not_last : (k == length (requested_by t h)) ≡ false = ne_eqb k (length (requested_by t h)) (λ e. other same (omega (arith, last))) in
          rw (is_one, differs) (before ∙ sym (push_at (requested_by t h) r k ∙ ap (λ b. cond b (Some r) (slice_get (requested_by t h) k)) not_last))
  requested_after t p k j n r h next as_many before (inr (differs, apart)) = let other = pair_apart t p (k + 1) j apart in rw (differs, other) before

  pub requested_at : (t : TaskId) (k : ℕ) (h : List Event) → Lawful cluster h → request_of_ask t (k + 1) h ≡ slice_get (requested_by t h) k
  requested_at t k [] l = refl
  requested_at t k (Ask p j n r ∷ h) l = requested_after t p k j n r h l.0.next (requested_counted t h l.1) (requested_at t k h l.1) (same_task_tells t p)
  requested_at t k (_ ∷ h) l = requested_at t k h l.1

  -- an answer is in flight only to an ask with a number from 1
  pub answered_number : (p : TaskId) (j : ℕ) (h : List Event) → AskFacts h → 0 < number_in_flight (is_answer p j) h → 0 < j
  answered_number p j h f i = grind (arith, same_tests, answers_in_flight p j h, f.place p j, f.first_ask p)

  awaited_after_ask : (t p : TaskId) (k j n : ℕ) (r : Request) (h : List Event) → j ≡ last_ask p h + 1 → length (awaited_by t h) ≡ last_ask t h
      → is_unanswered t (k + 1) h ≡ is_some (get_or (awaited_by t h) k None) → ((same_task t p ≡ true) × (t ≡ p)) ⊎ ((same_task t p ≡ false) × (t ≢ p))
      → is_unanswered t (k + 1) (Ask p j n r ∷ h) ≡ is_some (get_or (awaited_by t (Ask p j n r ∷ h)) k None)
  awaited_after_ask t p k j n r h next as_many before (inl (is_one, same)) = by_number (same_pair_tells t (k + 1) p j)
    where
      last : last_ask t h ≡ last_ask p h
      last = ap (λ u. last_ask u h) same

      by_number : ((same_pair t (k + 1) p j ≡ true) × (t ≡ p) × (k + 1 ≡ j)) ⊎ ((same_pair t (k + 1) p j ≡ false) × (t ≡ p → k + 1 ≢ j)) → is_unanswered t (k + 1) (Ask p j n r ∷ h) ≡ is_some (get_or (awaited_by t (Ask p j n r ∷ h)) k None)
      by_number (inl (equal, one, number)) =
          let e : k ≡ length (awaited_by t h) = omega (arith, last) in
          rw (is_one, equal) (sym (ap (λ i. is_some (get_or (awaited_by t h ++ Some n ∷ []) i None)) e ∙ ap is_some (get_or-append_seam (awaited_by t h) (Some n) [] None)))
      by_number (inr (differs, other)) = rw (is_one, differs) (before ∙ sym (ap is_some (get_or-grown_other (awaited_by t h) (Some n) k (λ e. other same (omega (arith, last))))))
  awaited_after_ask t p k j n r h next as_many before (inr (differs, apart)) = let other = pair_apart t p (k + 1) j apart in rw (differs, other) before

  awaited_after_answer : (t p : TaskId) (k j : ℕ) (h : List Event) → 0 < j → is_unanswered t (k + 1) h ≡ is_some (get_or (awaited_by t h) k None)
      → ((same_task t p ≡ true) × (t ≡ p)) ⊎ ((same_task t p ≡ false) × (t ≢ p)) → is_unanswered t (k + 1) (Answered p j ∷ h) ≡ is_some (get_or (awaited_by t (Answered p j ∷ h)) k None)
  awaited_after_answer t p k j h low before (inl (is_one, same)) =
      let none = get_or-set_none (awaited_by t h) k in
      rw is_one (grind (arith, same_tests, get_or-set_other (awaited_by t h) (j - 1) k None None))
  awaited_after_answer t p k j h low before (inr (differs, apart)) = rw differs (grind (arith, same_tests))

  pub awaited_at : (t : TaskId) (k : ℕ) (h : List Event) → Lawful cluster h → is_unanswered t (k + 1) h ≡ is_some (get_or (awaited_by t h) k None)
  awaited_at t k [] l = refl
  awaited_at t k (Ask p j n r ∷ h) l = awaited_after_ask t p k j n r h l.0.next (awaited_counted t h l.1) (awaited_at t k h l.1) (same_task_tells t p)
  awaited_at t k (Answered p j ∷ h) l = awaited_after_answer t p k j h (answered_number p j h (ask_facts cluster h l.1) l.0) (awaited_at t k h l.1) (same_task_tells t p)
  awaited_at t k (_ ∷ h) l = awaited_at t k h l.1
