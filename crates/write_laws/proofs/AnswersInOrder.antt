-- The answers to a slice come in the order of its asks, since it asks for something only once all that it asked for before is answered.
use Rattle.std.proofs.Common.{◌≡◌, ◌+◌, ◌-◌, ◌≤◌, ◌<◌, ◌⊎◌, inl, inr, ℕ, zero, suc, Bool, true, false, cond, List, [], ◌∷◌, ◌++◌, length, length-append, Some, refl, sym, ap, subst, ◌∙◌, arith}
use Rattle.std.specs.Prelude.{get_or, slice_set}
use Rattle.std.proofs.lemmas.Bool.{cases_lt}
use Rattle.std.proofs.lemmas.List.{get_or-set_other, get_or-set_same}
use Rattle.task_ids.specs.declared.cluster.Cluster.{Cluster}
use Rattle.task_ids.specs.declared.corpus.Corpus.{Corpus}
use Rattle.task_ids.specs.declared.task_id.TaskId.{TaskId}
use Rattle.task_events.specs.declared.event.Event.{Event}
use Rattle.task_events.specs.declared.event.Event.TheVariants.{Root, Ask, Put, Answered, Tick}
use Rattle.task_events.specs.declared.request.ReindexAsk.{ReindexAsk}
use Rattle.task_events.specs.declared.request.Request.{Request}
use Rattle.task_events.specs.Asks.{is_unanswered, last_ask}
use Rattle.task_events.specs.Clock.{clock}
use Rattle.task_events.specs.Kind.{Progress}
use Rattle.task_events.specs.Kinds.{kind_of}
use Rattle.task_events.specs.Lawful.{Lawful}
use Rattle.task_events.specs.Requests.{Scripted, request_of}
use Rattle.task_events.specs.Same.{same_pair, same_task}
use Rattle.task_events.specs.SliceTask.{slice_step}
use Rattle.task_events.specs.Steps.{asked_by, came_by, progress_of}
use Rattle.task_events.specs.Written.{corpus_at}
use Rattle.task_laws.proofs.Asks.{ask_facts}
use Rattle.task_laws.proofs.InFlight.{answers_in_flight}
use Rattle.task_laws.proofs.Same.{same_tests}
use Rattle.write_laws.proofs.ChildAsks.{asks_made}
use Rattle.write_laws.proofs.SliceAsks.{come_answered, newest_come, slice_asks_next}
use Rattle.write_laws.proofs.StepCases.{asks_by_plan}
use Rattle.write_laws.proofs.WholeTurns.{AllPlanned}

-- ---- the moments at which answers came

-- one more moment that is 0 changes none
more_none : (xs : List ℕ) (i : ℕ) → get_or (xs ++ 0 ∷ []) i 0 ≡ get_or xs i 0
more_none [] zero = refl
more_none [] (suc i) = refl
more_none (x ∷ xs) zero = refl
more_none (x ∷ xs) (suc i) = more_none xs i

-- where a moment is set, each is that or as before
one_set : (xs : List ℕ) (i y j : ℕ) → (get_or (slice_set xs i y) j 0 ≡ y) ⊎ (get_or (slice_set xs i y) j 0 ≡ get_or xs j 0)
one_set [] i y j = inr refl
one_set (x ∷ xs) zero y zero = inl refl
one_set (x ∷ xs) zero y (suc j) = inr refl
one_set (x ∷ xs) (suc i) y zero = inr refl
one_set (x ∷ xs) (suc i) y (suc j) = one_set xs i y j

as_long : (xs : List ℕ) (i y : ℕ) → length (slice_set xs i y) ≡ length xs
as_long [] i y = refl
as_long (x ∷ xs) zero y = refl
as_long (x ∷ xs) (suc i) y = ap suc (as_long xs i y)

-- a task has as many of them as asks
moments_made : (cluster : Cluster) (t : TaskId) (h : List Event) → Lawful cluster h → length (came_by t h) ≡ last_ask t h
moments_made cluster t [] l = refl
moments_made cluster t (Ask p k n r ∷ h) l = by_task (same_task t p) refl (moments_made cluster t h l.1)
  where
    by_task : (b : Bool) → same_task t p ≡ b → length (came_by t h) ≡ last_ask t h → length (cond b (came_by t h ++ 0 ∷ []) (came_by t h)) ≡ cond b k (last_ask t h)
    by_task true own before = let next : k ≡ last_ask t h + 1 = grind (arith, same_tests, l.0.next) in let longer = length-append (came_by t h) (0 ∷ []) in omega (arith, next, before, longer)
    by_task false other before = before
moments_made cluster t (Answered p k ∷ h) l = by_task (same_task t p) (moments_made cluster t h l.1)
  where
    by_task : (b : Bool) → length (came_by t h) ≡ last_ask t h → length (cond b (slice_set (came_by t h) (k - 1) (clock h)) (came_by t h)) ≡ last_ask t h
    by_task true before = as_long (came_by t h) (k - 1) (clock h) ∙ before
    by_task false before = before
moments_made cluster t (_ ∷ h) l = moments_made cluster t h l.1

-- each has come
past_moments : (t : TaskId) (h : List Event) (i : ℕ) → get_or (came_by t h) i 0 ≤ clock h
past_moments t [] i = omega arith
past_moments t (Ask p k n r ∷ h) i = by_task (same_task t p) (past_moments t h i)
  where
    by_task : (b : Bool) → get_or (came_by t h) i 0 ≤ clock h → get_or (cond b (came_by t h ++ 0 ∷ []) (came_by t h)) i 0 ≤ clock h
    by_task true before = let same = more_none (came_by t h) i in omega (arith, before, same)
    by_task false before = before
past_moments t (Answered p k ∷ h) i = by_task (same_task t p) (past_moments t h i)
  where
    by_set : (get_or (slice_set (came_by t h) (k - 1) (clock h)) i 0 ≡ clock h) ⊎ (get_or (slice_set (came_by t h) (k - 1) (clock h)) i 0 ≡ get_or (came_by t h) i 0) → get_or (came_by t h) i 0 ≤ clock h → get_or (slice_set (came_by t h) (k - 1) (clock h)) i 0 ≤ clock h
    by_set (inl now) before = omega (arith, now)
    by_set (inr was) before = omega (arith, was, before)

    by_task : (b : Bool) → get_or (came_by t h) i 0 ≤ clock h → get_or (cond b (slice_set (came_by t h) (k - 1) (clock h)) (came_by t h)) i 0 ≤ clock h
    by_task true before = by_set (one_set (came_by t h) (k - 1) (clock h) i) before
    by_task false before = before
past_moments t (Tick ms ∷ h) i = let before = past_moments t h i in omega (arith, before)
past_moments t (_ ∷ h) i = past_moments t h i

module _ (cluster : Cluster) (corpus : Corpus) (said : Scripted) (p : TaskId) (request : Request) (ask : ReindexAsk) (slice : ℕ)
    (does : (made : Corpus) (q : Progress) (now : ℕ) → (kind_of request).step cluster made p q now ≡ slice_step p ask slice cluster.shards q.asked q.came now) where
  -- when it asks for something, its last ask is answered
  pub last_answered : (j n : ℕ) (child : Request) (h : List Event) → Lawful cluster (Ask p j n child ∷ h) → AllPlanned cluster corpus said (Ask p j n child ∷ h) → request_of said p h ≡ Some request → 1 ≤ last_ask p h → is_unanswered p (last_ask p h) h ≡ false
  last_answered j n child h l planned e some =
      let step = sym (does (corpus_at corpus said h) (progress_of cluster corpus said p request h) (clock h)) ∙ asks_by_plan cluster corpus said h (Ask p j n child) planned.0.0 p j n child request refl e in
      let next = slice_asks_next p ask slice cluster.shards (asked_by p h) (came_by p h) (clock h) child step in
      let made = asks_made cluster p h l.1 in
      let newest = next.answered (omega (arith, made, some)) in
      (come_answered p h (last_ask p h) newest.0 (newest_come cluster p h l.1 newest.0 newest.1)).0

  -- so only its last ask may be open
  pub older_answered : (h : List Event) → Lawful cluster h → AllPlanned cluster corpus said h → request_of said p h ≡ Some request → (k : ℕ) → 1 ≤ k → k < last_ask p h → is_unanswered p k h ≡ false
  older_answered [] l planned e k low high = absurd (omega (arith, low, high))
  older_answered (Root n u ∷ h) l planned e k low high = by_task (same_task p u) refl (λ was. older_answered h l.1 planned.1 was k low high)
    where
      by_task : (b : Bool) → same_task p u ≡ b → (request_of said p h ≡ Some request → is_unanswered p k h ≡ false) → is_unanswered p k h ≡ false
      by_task true own before = let f = ask_facts cluster h l.1 in let unborn = f.unborn_asks p (grind (arith, same_tests, l.0.takes.next)) in absurd (omega (arith, unborn, low, high))
      by_task false other before = before (rw other at e)
  older_answered (Put u q j ∷ h) l planned e k low high = by_task (same_task p u) refl (λ was. older_answered h l.1 planned.1 was k low high)
    where
      by_task : (b : Bool) → same_task p u ≡ b → (request_of said p h ≡ Some request → is_unanswered p k h ≡ false) → is_unanswered p k h ≡ false
      by_task true own before = let f = ask_facts cluster h l.1 in let unborn = f.unborn_asks p (grind (arith, same_tests, l.0.takes.next)) in absurd (omega (arith, unborn, low, high))
      by_task false other before = before (rw other at e)
  older_answered (Ask q j n child ∷ h) l planned e k low high = by_task (same_task p q) refl (older_answered h l.1 planned.1 e k low)
    where
      last_too : q ≡ p → 1 ≤ last_ask p h → is_unanswered p (last_ask p h) h ≡ false
      last_too own some =
          let one_event : Ask q j n child ≡ Ask p j n child = λ i. Ask (own i) j n child in
          last_answered j n child h (subst (λ x. Lawful cluster (x ∷ h)) one_event l) (subst (λ x. AllPlanned cluster corpus said (x ∷ h)) one_event planned) e some

      by_number : q ≡ p → (k < last_ask p h) ⊎ (last_ask p h ≤ k) → k < j → j ≡ last_ask p h + 1 → (k < last_ask p h → is_unanswered p k h ≡ false) → is_unanswered p k h ≡ false
      by_number own (inl less) below next before = before less
      by_number own (inr more) below next before = let same : k ≡ last_ask p h = omega (arith, more, below, next) in ap (λ i. is_unanswered p i h) same ∙ last_too own (omega (arith, low, same))

      by_task : (b : Bool) → same_task p q ≡ b → (k < last_ask p h → is_unanswered p k h ≡ false) → is_unanswered p k (Ask q j n child ∷ h) ≡ false
      by_task true own before =
          let below : k < j = rw own at high in
          let next : j ≡ last_ask p h + 1 = grind (arith, same_tests, l.0.next) in
          let same : q ≡ p = grind (arith, same_tests) in
          let was = by_number same (cases_lt k (last_ask p h)) below next before in
          let apart : same_pair p k q j ≡ false = grind (arith, same_tests) in
          rw apart was
      by_task false other before =
          let was = before (rw other at high) in
          let apart : same_pair p k q j ≡ false = grind (arith, same_tests) in
          rw apart was
  older_answered (Answered q j ∷ h) l planned e k low high = by_pair (same_pair p k q j) (older_answered h l.1 planned.1 e k low high)
    where
      by_pair : (b : Bool) → is_unanswered p k h ≡ false → cond b false (is_unanswered p k h) ≡ false
      by_pair true before = refl
      by_pair false before = before
  older_answered (_ ∷ h) l planned e k low high = older_answered h l.1 planned.1 e k low high

  -- an answer that comes is that to its last ask
  answers_last : (j : ℕ) (h : List Event) → Lawful cluster (Answered p j ∷ h) → AllPlanned cluster corpus said h → request_of said p h ≡ Some request → (1 ≤ j) × (j ≡ last_ask p h)
  answers_last j h l planned e = (low, by_number (cases_lt j (last_ask p h)) (cases_lt (last_ask p h) j))
    where
      waits : is_unanswered p j h ≡ true
      waits = let f = ask_facts cluster h l.1 in grind (arith, f.place p j, answers_in_flight p j h, l.0)

      low : 1 ≤ j
      low = by_zero (cases_lt 0 j)
        where
          by_zero : (0 < j) ⊎ (j ≤ 0) → 1 ≤ j
          by_zero (inl more) = omega (arith, more)
          by_zero (inr less) = let f = ask_facts cluster h l.1 in absurd (let none : j ≡ 0 = omega (arith, less) in let no : true ≡ false = sym waits ∙ ap (λ i. is_unanswered p i h) none ∙ f.first_ask p in cc)

      by_number : (j < last_ask p h) ⊎ (last_ask p h ≤ j) → (last_ask p h < j) ⊎ (j ≤ last_ask p h) → j ≡ last_ask p h
      by_number (inl less) other = absurd (let no : true ≡ false = sym waits ∙ older_answered h l.1 planned e j low less in cc)
      by_number (inr more) (inl above) = absurd (let f = ask_facts cluster h l.1 in let no : true ≡ false = sym waits ∙ f.not_asked p j above in cc)
      by_number (inr more) (inr less) = omega (arith, more, less)

  -- the answer to an ask came after that to the ask before
  abbrev Rises : List Event → ℕ → Type 0
  Rises h k = get_or (came_by p h) (k - 2) 0 ≤ get_or (came_by p h) (k - 1) 0

  pub answers_rise : (h : List Event) → Lawful cluster h → AllPlanned cluster corpus said h → request_of said p h ≡ Some request → (k : ℕ) → 2 ≤ k → k ≤ last_ask p h → is_unanswered p k h ≡ false → Rises h k
  answers_rise [] l planned e k low high come = absurd (omega (arith, low, high))
  answers_rise (Root n u ∷ h) l planned e k low high come = by_task (same_task p u) refl (λ was. answers_rise h l.1 planned.1 was k low high come)
    where
      by_task : (b : Bool) → same_task p u ≡ b → (request_of said p h ≡ Some request → Rises h k) → Rises h k
      by_task true own before = let f = ask_facts cluster h l.1 in let unborn = f.unborn_asks p (grind (arith, same_tests, l.0.takes.next)) in absurd (omega (arith, unborn, low, high))
      by_task false other before = before (rw other at e)
  answers_rise (Put u q j ∷ h) l planned e k low high come = by_task (same_task p u) refl (λ was. answers_rise h l.1 planned.1 was k low high come)
    where
      by_task : (b : Bool) → same_task p u ≡ b → (request_of said p h ≡ Some request → Rises h k) → Rises h k
      by_task true own before = let f = ask_facts cluster h l.1 in let unborn = f.unborn_asks p (grind (arith, same_tests, l.0.takes.next)) in absurd (omega (arith, unborn, low, high))
      by_task false other before = before (rw other at e)
  answers_rise (Ask q j n child ∷ h) l planned e k low high come = by_task (same_task p q) refl (answers_rise h l.1 planned.1 e k low)
    where
      newest : same_pair p k q j ≡ false
      newest = by_pair (same_pair p k q j) refl
        where
          by_pair : (b : Bool) → same_pair p k q j ≡ b → b ≡ false
          by_pair false is = refl
          by_pair true is = absurd (let no : true ≡ false = rw is at come in cc)

      was_come : is_unanswered p k h ≡ false
      was_come = rw newest at come

      by_task : (b : Bool) → same_task p q ≡ b → (k ≤ last_ask p h → is_unanswered p k h ≡ false → Rises h k) → get_or (cond b (came_by p h ++ 0 ∷ []) (came_by p h)) (k - 2) 0 ≤ get_or (cond b (came_by p h ++ 0 ∷ []) (came_by p h)) (k - 1) 0
      by_task true own before =
          let rises = before (grind (arith, same_tests, newest, l.0.next)) was_come in
          omega (arith, rises, more_none (came_by p h) (k - 2), more_none (came_by p h) (k - 1))
      by_task false other before = before (rw other at high) was_come
  answers_rise (Answered q j ∷ h) l planned e k low high come = by_task (same_task p q) refl (answers_rise h l.1 planned.1 e k low high)
    where
      own_answer : q ≡ p → (is_unanswered p k h ≡ false → Rises h k) → get_or (slice_set (came_by p h) (j - 1) (clock h)) (k - 2) 0 ≤ get_or (slice_set (came_by p h) (j - 1) (clock h)) (k - 1) 0
      own_answer own rises = by_number (cases_lt k (last_ask p h))
        where
          last : (1 ≤ j) × (j ≡ last_ask p h)
          last = answers_last j h (subst (λ x. Lawful cluster (Answered x j ∷ h)) own l) planned.1 e

          by_number : (k < last_ask p h) ⊎ (last_ask p h ≤ k) → get_or (slice_set (came_by p h) (j - 1) (clock h)) (k - 2) 0 ≤ get_or (slice_set (came_by p h) (j - 1) (clock h)) (k - 1) 0
          by_number (inl less) =
              let before = rises (older_answered h l.1 planned.1 e k (omega (arith, low)) less) in
              let one = get_or-set_other (came_by p h) (j - 1) (k - 2) (clock h) 0 (λ same. absurd (omega (arith, same, last.0, last.1, less, low))) in
              let two = get_or-set_other (came_by p h) (j - 1) (k - 1) (clock h) 0 (λ same. absurd (omega (arith, same, last.0, last.1, less, low))) in
              omega (arith, before, one, two)
          by_number (inr more) =
              let made = moments_made cluster p h l.1 in
              let same : k - 1 ≡ j - 1 = omega (arith, more, high, last.1) in
              let one = get_or-set_other (came_by p h) (j - 1) (k - 2) (clock h) 0 (λ same. absurd (omega (arith, same, last.0, last.1, more, high, low))) in
              let two = ap (λ i. get_or (slice_set (came_by p h) (j - 1) (clock h)) i 0) same ∙ get_or-set_same (came_by p h) (j - 1) (clock h) 0 (omega (arith, made, last.0, last.1)) in
              let past = past_moments p h (k - 2) in
              omega (arith, one, two, past)

      by_task : (b : Bool) → same_task p q ≡ b → (is_unanswered p k h ≡ false → Rises h k) → get_or (cond b (slice_set (came_by p h) (j - 1) (clock h)) (came_by p h)) (k - 2) 0 ≤ get_or (cond b (slice_set (came_by p h) (j - 1) (clock h)) (came_by p h)) (k - 1) 0
      by_task true own rises = own_answer (let same : q ≡ p = grind (arith, same_tests) in same) rises
      by_task false other rises =
          let apart : same_pair p k q j ≡ false = grind (arith, same_tests) in
          rises (rw apart at come)
  answers_rise (_ ∷ h) l planned e k low high come = answers_rise h l.1 planned.1 e k low high come
