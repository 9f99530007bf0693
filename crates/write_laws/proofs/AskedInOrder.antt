-- The asks of a task in order, with the answers that have come.
use Rattle.std.proofs.Common.{◌≡◌, ◌≢◌, ◌⊎◌, inl, inr, ◌+◌, ◌≤◌, ◌<◌, ℕ, zero, suc, Bool, true, false, cond, List, [], ◌∷◌, ◌++◌, map, Option, Some, None, refl, sym, ap, ◌∙◌, arith}
use Rattle.std.specs.Prelude.{option_and_then, if◌then◌else◌}
use Rattle.std.proofs.lemmas.List.{map-append}
use Rattle.task_ids.specs.declared.task_id.TaskId.{TaskId}
use Rattle.task_ids.specs.declared.cluster.Cluster.{Cluster}
use Rattle.task_events.specs.declared.event.Event.{Event}
use Rattle.task_events.specs.declared.event.Event.TheVariants.{Ask, Put, Reject, Refuse, Answered, End}
use Rattle.task_events.specs.declared.reply.Reply.{Reply}
use Rattle.task_events.specs.declared.request.Request.{Request}
use Rattle.task_events.specs.declared.step.Asked.{Asked}
use Rattle.task_events.specs.Asks.{answer_of, answer_or, is_unanswered, last_ask, rejection_of, up_to}
use Rattle.task_events.specs.Lawful.{Lawful}
use Rattle.task_events.specs.Messages.{is_request, number_in_flight}
use Rattle.task_events.specs.Same.{same_task}
use Rattle.task_events.specs.Steps.{asked_by, with_answer}
use Rattle.task_events.specs.Tasks.{child_of, has_ended, is_live, live_child, reply_of}
use Rattle.task_laws.proofs.Asks.{AskFacts, ask_facts}
use Rattle.task_laws.proofs.InFlight.{answers_in_flight, requests_in_flight}
use Rattle.task_laws.proofs.Same.{same_task_tells, same_tests}

-- its answer, once it has come
abbrev pub answer_come : TaskId → List Event → ℕ → Option Reply
answer_come t h k = if is_unanswered t k h then None else answer_of t k h

abbrev pub asked_at : TaskId → List Event → ℕ → Asked
asked_at t h k = record { ask = k; answer = answer_come t h k }

abbrev with_reply : ℕ → Option Reply → Asked
with_reply k reply = record { ask = k; answer = reply }

-- lists over the numbers up to n agree where their elements do
lists_agree : (f g : ℕ → Asked) (n : ℕ) → ((k : ℕ) → k ≤ n → f k ≡ g k) → map f (up_to n) ≡ map g (up_to n)
lists_agree f g zero each = refl
lists_agree f g (suc n) each =
    map-append f (up_to n) (suc n ∷ [])
    ∙ (λ i. lists_agree f g n (λ k l. each k (omega (arith, l))) i ++ each (suc n) (omega arith) i ∷ [])
    ∙ sym (map-append g (up_to n) (suc n ∷ []))

mapped_twice : (f : Asked → Asked) (g : ℕ → Asked) (ks : List ℕ) → map f (map g ks) ≡ map (λ k. f (g k)) ks
mapped_twice f g [] = refl
mapped_twice f g (k ∷ ks) = ap (λ xs. f (g k) ∷ xs) (mapped_twice f g ks)

module _ (cluster : Cluster) (t : TaskId) where
  -- ---- an answer that has come stays

  stays : (h g : List Event) (k : ℕ) (b : Bool) → is_unanswered t k h ≡ b → is_unanswered t k g ≡ b → (b ≡ false → answer_of t k h ≡ answer_of t k g) → answer_come t h k ≡ answer_come t g k
  stays h g k true before after same = rw (before, after) refl
  stays h g k false before after same = rw (before, after) (same refl)

  -- an ask whose request is in flight is unanswered, and so is one whose child is live
  requested_open : (h : List Event) → AskFacts h → (q : TaskId) (j : ℕ) → 0 < number_in_flight (is_request q j) h → is_unanswered q j h ≡ true
  requested_open h f q j i = grind (arith, f.place q j, requests_in_flight q j h)

  living_open : (h : List Event) → AskFacts h → (k : ℕ) (u : TaskId) → child_of t k h ≡ Some u → is_live u h ≡ true → is_unanswered t k h ≡ true
  living_open h f k u e live = let one : live_child t k h ≡ 1 = rw e (rw live refl) in grind (arith, f.place t k)

  put_keeps : (u q : TaskId) (j : ℕ) (h : List Event) → Lawful cluster (Put u q j ∷ h) → (k : ℕ) → answer_come t h k ≡ answer_come t (Put u q j ∷ h) k
  put_keeps u q j h l k = stays h (Put u q j ∷ h) k (is_unanswered t k h) refl refl (λ come. let waits = requested_open h (ask_facts cluster h l.1) q j l.0.requested in grind (arith, same_tests, waits))

  reject_keeps : (n : ℕ) (q : TaskId) (j : ℕ) (h : List Event) → Lawful cluster (Reject n q j ∷ h) → (k : ℕ) → answer_come t h k ≡ answer_come t (Reject n q j ∷ h) k
  reject_keeps n q j h l k = stays h (Reject n q j ∷ h) k (is_unanswered t k h) refl refl (λ come. let waits = requested_open h (ask_facts cluster h l.1) q j l.0.requested in grind (arith, same_tests, waits))

  -- the reply of the child of an answered ask is not that of a task that ends now
  leave_keeps : (h g : List Event) → AskFacts h → (u : TaskId) → is_live u h ≡ true → ((c : TaskId) → same_task c u ≡ false → reply_of c g ≡ reply_of c h) → (k : ℕ) → is_unanswered t k h ≡ false
      → (o : Option TaskId) → child_of t k h ≡ o → option_and_then (λ c. reply_of c h) o ≡ option_and_then (λ c. reply_of c g) o
  leave_keeps h g f u live others k come None e = refl
  leave_keeps h g f u live others k come (Some c) e = sym (others c (apart (same_task_tells c u)))
    where
      apart : ((same_task c u ≡ true) × (c ≡ u)) ⊎ ((same_task c u ≡ false) × (c ≢ u)) → same_task c u ≡ false
      apart (inl (one, same)) = absurd (let waits = living_open h f k u (e ∙ ap Some same) live in let no : true ≡ false = sym waits ∙ come in cc)
      apart (inr (other, differ)) = other

  refuse_keeps : (u : TaskId) (c : ℕ) (h : List Event) → Lawful cluster (Refuse u c ∷ h) → (k : ℕ) → answer_come t h k ≡ answer_come t (Refuse u c ∷ h) k
  refuse_keeps u c h l k =
      stays h (Refuse u c ∷ h) k (is_unanswered t k h) refl refl
      (λ come. ap (answer_or (rejection_of t k h)) (leave_keeps h (Refuse u c ∷ h) (ask_facts cluster h l.1) u l.0.live (λ v other. rw other refl) k come (child_of t k h) refl))

  end_keeps : (u : TaskId) (r : Reply) (h : List Event) → Lawful cluster (End u r ∷ h) → (k : ℕ) → answer_come t h k ≡ answer_come t (End u r ∷ h) k
  end_keeps u r h l k =
      stays h (End u r ∷ h) k (is_unanswered t k h) refl refl
      (λ come. ap (answer_or (rejection_of t k h)) (leave_keeps h (End u r ∷ h) (ask_facts cluster h l.1) u l.0.goes_on.live (λ v other. rw other refl) k come (child_of t k h) refl))

  -- ---- each ask in order

  kept : (h g : List Event) → ((k : ℕ) → answer_come t h k ≡ answer_come t g k) → asked_by t h ≡ map (asked_at t h) (up_to (last_ask t h)) → asked_by t h ≡ map (asked_at t g) (up_to (last_ask t h))
  kept h g same before = before ∙ lists_agree (asked_at t h) (asked_at t g) (last_ask t h) (λ k l. ap (with_reply k) (same k))

  one_asked : (p : TaskId) (j n : ℕ) (r : Request) (h : List Event) → Lawful cluster (Ask p j n r ∷ h) → (b : Bool) → same_task t p ≡ b → asked_by t h ≡ map (asked_at t h) (up_to (last_ask t h))
      → cond b (asked_by t h ++ record { ask = j; answer = None } ∷ []) (asked_by t h) ≡ map (asked_at t (Ask p j n r ∷ h)) (up_to (cond b j (last_ask t h)))
  one_asked p j n r h l false other before = kept h (Ask p j n r ∷ h) (λ k. grind (arith, same_tests)) before
  one_asked p j n r h l true own before =
      let last : j ≡ last_ask t h + 1 = grind (arith, same_tests, l.0.next) in
      of_number (last_ask t h) j last refl
    where
      older : (k : ℕ) → k ≤ last_ask t h → answer_come t h k ≡ answer_come t (Ask p j n r ∷ h) k
      older k low = grind (arith, same_tests, l.0.next)

      newest : (k : ℕ) → k ≡ last_ask t h + 1 → answer_come t (Ask p j n r ∷ h) k ≡ None
      newest k next = grind (arith, same_tests, l.0.next)

      of_number : (m i : ℕ) → i ≡ m + 1 → m ≡ last_ask t h → asked_by t h ++ with_reply i None ∷ [] ≡ map (asked_at t (Ask p j n r ∷ h)) (up_to i)
      of_number m zero next last = absurd (omega (arith, next))
      of_number m (suc i) next last =
          let same : i ≡ m = omega (arith, next) in
          ap (λ xs. xs ++ with_reply (suc i) None ∷ []) (before ∙ ap (λ x. map (asked_at t h) (up_to x)) (sym last ∙ sym same) ∙ lists_agree (asked_at t h) (asked_at t (Ask p j n r ∷ h)) i (λ k low. ap (with_reply k) (older k (omega (arith, low, same, last)))))
          ∙ ap (λ reply. map (asked_at t (Ask p j n r ∷ h)) (up_to i) ++ with_reply (suc i) reply ∷ []) (sym (newest (suc i) (omega (arith, same, last))))
          ∙ sym (map-append (asked_at t (Ask p j n r ∷ h)) (up_to i) (suc i ∷ []))

  one_answered : (p : TaskId) (j : ℕ) (h : List Event) → (b : Bool) → same_task t p ≡ b → asked_by t h ≡ map (asked_at t h) (up_to (last_ask t h))
      → cond b (map (with_answer j (answer_of p j h)) (asked_by t h)) (asked_by t h) ≡ map (asked_at t (Answered p j ∷ h)) (up_to (last_ask t h))
  one_answered p j h false other before = kept h (Answered p j ∷ h) (λ k. grind (arith, same_tests)) before
  one_answered p j h true own before =
      ap (map (with_answer j (answer_of p j h))) before ∙ mapped_twice (with_answer j (answer_of p j h)) (asked_at t h) (up_to (last_ask t h))
      ∙ lists_agree (λ k. with_answer j (answer_of p j h) (asked_at t h k)) (asked_at t (Answered p j ∷ h)) (last_ask t h) (λ k l. at k)
    where
      at : (k : ℕ) → with_answer j (answer_of p j h) (asked_at t h k) ≡ asked_at t (Answered p j ∷ h) k
      at k = grind (arith, same_tests)

  pub asked_in_order : (h : List Event) → Lawful cluster h → asked_by t h ≡ map (asked_at t h) (up_to (last_ask t h))
  asked_in_order [] l = refl
  asked_in_order (Ask p j n r ∷ h) l = one_asked p j n r h l (same_task t p) refl (asked_in_order h l.1)
  asked_in_order (Answered p j ∷ h) l = one_answered p j h (same_task t p) refl (asked_in_order h l.1)
  asked_in_order (Put u q j ∷ h) l = kept h (Put u q j ∷ h) (put_keeps u q j h l) (asked_in_order h l.1)
  asked_in_order (Reject n q j ∷ h) l = kept h (Reject n q j ∷ h) (reject_keeps n q j h l) (asked_in_order h l.1)
  asked_in_order (Refuse u c ∷ h) l = kept h (Refuse u c ∷ h) (refuse_keeps u c h l) (asked_in_order h l.1)
  asked_in_order (End u r ∷ h) l = kept h (End u r ∷ h) (end_keeps u r h l) (asked_in_order h l.1)
  asked_in_order (_ ∷ h) l = asked_in_order h l.1

-- what has ended asks for nothing more, and is told nothing more
pub asked_stays : (cluster : Cluster) (e : Event) (h : List Event) (t : TaskId) → Lawful cluster (e ∷ h) → has_ended t h ≡ true → asked_by t (e ∷ h) ≡ asked_by t h
asked_stays cluster (Ask q j n child) h t l ended = let f = ask_facts cluster h l.1 in grind (arith, same_tests, f.live_or_ended q, l.0.goes_on.live)
asked_stays cluster (Answered q j) h t l ended = let f = ask_facts cluster h l.1 in grind (arith, same_tests, f.live_or_ended q, f.live_asker q j, f.place q j, answers_in_flight q j h, l.0)
asked_stays cluster _ h t l ended = refl
