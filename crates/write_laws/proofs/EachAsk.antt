-- What is so of each ask of a task, because its plan led to it and what happens later leaves it so.
use Rattle.std.proofs.Common.{◌≡◌, ◌≢◌, ◌⊎◌, inl, inr, ◌+◌, ◌≤◌, ℕ, Bool, true, false, List, [], ◌∷◌, Some, refl, sym, ap, subst, ◌∙◌, arith}
use Rattle.task_ids.specs.declared.cluster.Cluster.{Cluster}
use Rattle.task_ids.specs.declared.corpus.Corpus.{Corpus}
use Rattle.task_ids.specs.declared.task_id.TaskId.{TaskId}
use Rattle.task_events.specs.declared.event.Event.{Event}
use Rattle.task_events.specs.declared.event.Event.TheVariants.{Root, Ask, Put}
use Rattle.task_events.specs.declared.request.Request.{Request}
use Rattle.task_events.specs.declared.step.Do.TheVariants.{AskNext}
use Rattle.task_events.specs.Asks.{last_ask, request_of_ask}
use Rattle.task_events.specs.Kind.{Progress}
use Rattle.task_events.specs.Kinds.{kind_of}
use Rattle.task_events.specs.Lawful.{Lawful}
use Rattle.task_events.specs.Requests.{Scripted, request_of}
use Rattle.task_events.specs.Same.{same_pair, same_task}
use Rattle.task_events.specs.Steps.{planned_step}
use Rattle.task_laws.proofs.Asks.{ask_facts}
use Rattle.task_laws.proofs.Same.{same_pair_refl, same_pair_tells, same_tests}
use Rattle.write_laws.proofs.AsksByKind.{asks_only}
use Rattle.write_laws.proofs.StepCases.{asks_by_plan}
use Rattle.write_laws.proofs.WholeTurns.{AllPlanned}

-- an ask for something is one of those that the task has made
pub asked_within : (cluster : Cluster) (h : List Event) → Lawful cluster h → (p : TaskId) (k : ℕ) (child : Request) → request_of_ask p k h ≡ Some child → (1 ≤ k) × (k ≤ last_ask p h)
asked_within cluster [] l p k child e = absurd (cc)
asked_within cluster (Ask q j n made ∷ h) l p k child e = by_pair (same_pair_tells p k q j) (asked_within cluster h l.1 p k child)
  where
    by_pair : ((same_pair p k q j ≡ true) × (p ≡ q) × (k ≡ j)) ⊎ ((same_pair p k q j ≡ false) × (p ≡ q → k ≢ j)) → (request_of_ask p k h ≡ Some child → (1 ≤ k) × (k ≤ last_ask p h)) → (1 ≤ k) × (k ≤ last_ask p (Ask q j n made ∷ h))
    by_pair (inl (one, same, number)) before = (let next = l.0.next in omega (arith, next, number), grind (arith, same_tests))
    by_pair (inr (other, apart)) before = let was = before (rw other at e) in (was.0, grind (arith, same_tests, was.1, l.0.next))
asked_within cluster (_ ∷ h) l p k child e = asked_within cluster h l.1 p k child e

module _ (cluster : Cluster) (corpus : Corpus) (said : Scripted) (p : TaskId) (request : Request) where
  module _ (Says : List Event → ℕ → Type 0) (stays : (e : Event) (h : List Event) → Lawful cluster (e ∷ h) → (k : ℕ) → request_of_ask p k (e ∷ h) ≡ request_of_ask p k h → Says h k → Says (e ∷ h) k)
      (made : (h : List Event) (k n : ℕ) (child : Request) → Lawful cluster (Ask p k n child ∷ h) → k ≡ last_ask p h + 1 → planned_step cluster corpus said p request h ≡ AskNext child → Says (Ask p k n child ∷ h) k) where
    -- a task that starts now has asked for nothing yet
    starts : (e : Event) (h : List Event) → Lawful cluster (e ∷ h) → (k : ℕ) → last_ask p h ≡ 0 → 1 ≤ k → k ≤ last_ask p h → Says (e ∷ h) k
    starts e h l k none low high = absurd (omega (arith, none, low, high))

    pub each_ask : (h : List Event) → Lawful cluster h → AllPlanned cluster corpus said h → request_of said p h ≡ Some request → (k : ℕ) → 1 ≤ k → k ≤ last_ask p h → Says h k
    each_ask [] l planned e k low high = absurd (omega (arith, low, high))
    each_ask (Root n u ∷ h) l planned e k low high = by_task (same_task p u) refl (λ was. each_ask h l.1 planned.1 was k low high)
      where
        by_task : (b : Bool) → same_task p u ≡ b → (request_of said p h ≡ Some request → Says h k) → Says (Root n u ∷ h) k
        by_task true own before = starts (Root n u) h l k ((ask_facts cluster h l.1).unborn_asks p (grind (arith, same_tests, l.0.takes.next))) low high
        by_task false other before = stays (Root n u) h l k refl (before (rw other at e))
    each_ask (Put u q j ∷ h) l planned e k low high = by_task (same_task p u) refl (λ was. each_ask h l.1 planned.1 was k low high)
      where
        by_task : (b : Bool) → same_task p u ≡ b → (request_of said p h ≡ Some request → Says h k) → Says (Put u q j ∷ h) k
        by_task true own before = starts (Put u q j) h l k ((ask_facts cluster h l.1).unborn_asks p (grind (arith, same_tests, l.0.takes.next))) low high
        by_task false other before = stays (Put u q j) h l k refl (before (rw other at e))
    each_ask (Ask q j n child ∷ h) l planned e k low high = by_pair (same_pair_tells p k q j) (each_ask h l.1 planned.1 e k low)
      where
        by_pair : ((same_pair p k q j ≡ true) × (p ≡ q) × (k ≡ j)) ⊎ ((same_pair p k q j ≡ false) × (p ≡ q → k ≢ j)) → (k ≤ last_ask p h → Says h k) → Says (Ask q j n child ∷ h) k
        by_pair (inl (one, same, number)) before =
            let is : Ask q j n child ≡ Ask p k n child = λ i. Ask (sym same i) (sym number i) n child in
            let own = subst (λ x. Lawful cluster (x ∷ h)) is l in
            let plan = subst (λ x. AllPlanned cluster corpus said (x ∷ h)) is planned in
            subst (λ x. Says (x ∷ h) k) (sym is) (made h k n child own own.0.next (asks_by_plan cluster corpus said h (Ask p k n child) plan.0.0 p k n child request refl e))
        by_pair (inr (other, apart)) before = stays (Ask q j n child) h l k (rw other refl) (before (grind (arith, same_tests, l.0.next)))
    each_ask (x ∷ h) l planned e k low high = stays x h l k refl (each_ask h l.1 planned.1 e k low high)

  -- what is so of all that steps of its kind ask for is so of all that a task asks for
  module _ (P : Request → Type 0) (each : (made : Corpus) (q : Progress) (now : ℕ) (child : Request) → (kind_of request).step cluster made p q now ≡ AskNext child → P child) where
    abbrev AskedSo : List Event → ℕ → Type 0
    AskedSo h k = (child : Request) → request_of_ask p k h ≡ Some child → P child

    so_on : (e : Event) (h : List Event) → Lawful cluster (e ∷ h) → (k : ℕ) → request_of_ask p k (e ∷ h) ≡ request_of_ask p k h → AskedSo h k → AskedSo (e ∷ h) k
    so_on e h l k same before child asked = before child (sym same ∙ asked)

    so_new : (h : List Event) (k n : ℕ) (child : Request) → Lawful cluster (Ask p k n child ∷ h) → k ≡ last_ask p h + 1 → planned_step cluster corpus said p request h ≡ AskNext child → AskedSo (Ask p k n child ∷ h) k
    so_new h k n child l next step other asked =
        let told : Some child ≡ Some other = rw (same_pair_refl p k) at asked in
        let same : child ≡ other = cc in
        subst P same (each _ _ _ child step)

    pub asked_so : (h : List Event) → Lawful cluster h → AllPlanned cluster corpus said h → request_of said p h ≡ Some request → (k : ℕ) (child : Request) → request_of_ask p k h ≡ Some child → P child
    asked_so h l planned e k child asked = let within = asked_within cluster h l p k child asked in each_ask AskedSo so_on so_new h l planned e k within.0 within.1 child asked

  -- so with each test that all of them pass
  pub asked_only : (test : Request → Bool) → ((made : Corpus) (q : Progress) (now : ℕ) → asks_only test ((kind_of request).step cluster made p q now) ≡ true)
      → (h : List Event) → Lawful cluster h → AllPlanned cluster corpus said h → request_of said p h ≡ Some request → (k : ℕ) (child : Request) → request_of_ask p k h ≡ Some child → test child ≡ true
  asked_only test each = asked_so (λ child. test child ≡ true) (λ made q now child step. ap (asks_only test) (sym step) ∙ each made q now)
