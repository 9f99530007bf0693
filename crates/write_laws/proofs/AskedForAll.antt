-- A task that asks for one thing after the other, and ends once all are answered: where no answer tells of a failure, each of its children has
-- done without one what it was asked for.
use Rattle.std.proofs.Common.{◌≡◌, ◌+◌, ◌-◌, ◌≤◌, ◌<◌, ◌⊎◌, inl, inr, ℕ, zero, suc, Bool, true, false, cond, ◌&&◌, List, [], ◌∷◌, length, Option, Some, None, refl, sym, ap, subst, ◌∙◌, arith}
use Rattle.std.specs.List.{list_all, sum_by}
use Rattle.std.specs.Prelude.{is_some}
use Rattle.std.proofs.lemmas.Bool.{cases_lt}
use Rattle.std.proofs.lemmas.List.Folds.{list_all-append, list_all-map}
use Rattle.task_ids.specs.declared.cluster.Cluster.{Cluster}
use Rattle.task_ids.specs.declared.corpus.Corpus.{Corpus}
use Rattle.task_ids.specs.declared.task_id.TaskId.{TaskId}
use Rattle.task_events.specs.declared.event.Event.{Event}
use Rattle.task_events.specs.declared.event.Event.TheVariants.{Root, Ask, Put, Write, End}
use Rattle.task_events.specs.declared.event.Outcome.{Outcome}
use Rattle.task_events.specs.declared.reply.Counts.{Counts}
use Rattle.task_events.specs.declared.reply.Reply.{Reply}
use Rattle.task_events.specs.declared.reply.Reply.TheVariants.{Wrote}
use Rattle.task_events.specs.declared.request.Request.{Request}
use Rattle.task_events.specs.declared.step.Asked.{Asked}
use Rattle.task_events.specs.Asks.{answer_of, last_ask, request_of_ask, up_to}
use Rattle.task_events.specs.Clock.{clock}
use Rattle.task_events.specs.Counting.{answers_in, failures_of}
use Rattle.task_events.specs.Kind.{Progress}
use Rattle.task_events.specs.Kinds.{kind_of}
use Rattle.task_events.specs.Lawful.{Lawful}
use Rattle.task_events.specs.Requests.{Scripted, request_of}
use Rattle.task_events.specs.Same.{same_pair, same_task}
use Rattle.task_events.specs.SearchTask.{ask_or_end}
use Rattle.task_events.specs.Searches.{are_answered}
use Rattle.task_events.specs.Steps.{asked_by, progress_of}
use Rattle.task_events.specs.Tasks.{child_of, reply_of}
use Rattle.task_events.specs.Written.{corpus_at, is_writing, writes_by}
use Rattle.task_laws.proofs.Asks.{ask_facts}
use Rattle.task_laws.proofs.Same.{same_tests}
use Rattle.write_laws.specs.KindsAsked.{KeepsToKinds, is_part}
use Rattle.write_laws.specs.TreeWrites.{tree_number}
use Rattle.write_laws.proofs.AskedInOrder.{answer_come, asked_at, asked_in_order, asked_stays}
use Rattle.write_laws.proofs.ByKind.{own_none}
use Rattle.write_laws.proofs.ChildAsks.{asks_made, asks_next, child_request, ends_none}
use Rattle.write_laws.proofs.EndedWritten.{ended_says}
use Rattle.write_laws.proofs.GoodAnswers.{IsGoodAnswer, all_come, good_alive, good_answer}
use Rattle.write_laws.proofs.StepCases.{asks_by_plan, ends_by_plan}
use Rattle.write_laws.proofs.Trees.{children_number, number_by_children, own_number}
use Rattle.write_laws.proofs.WholeTurns.{AllPlanned}

-- a task writes no more of one sort than it writes
own_least : (passes : Outcome → List Event → Bool) (t : TaskId) (h : List Event) → own_number passes t h ≤ writes_by (λ outcome. true) t h
own_least passes t [] = omega arith
own_least passes t (Write index shard outcome id ∷ h) = by_write (is_writing t h) (passes outcome h) (own_number passes t h) (writes_by (λ outcome. true) t h) (own_least passes t h)
  where
    by_write : (w b : Bool) (n m : ℕ) → n ≤ m → cond (w && b) (1 + n) n ≤ cond (w && true) (1 + m) m
    by_write true true n m less = omega (arith, less)
    by_write true false n m less = omega (arith, less)
    by_write false b n m less = less
own_least passes t (_ ∷ h) = own_least passes t h

-- what is no part of a bulk writes nothing itself: its tree has written what its children's have
pub only_children : (cluster : Cluster) (said : Scripted) (passes : Outcome → List Event → Bool) (h : List Event) → Lawful cluster h → KeepsToKinds said h → (t : TaskId) (request : Request) → request_of said t h ≡ Some request → is_part request ≡ false
    → tree_number passes t h ≡ children_number passes t h
only_children cluster said passes h l keeps t request asked apart =
    let none = own_none cluster said (λ outcome. true) h l keeps t (rw asked apart) in
    let least = own_least passes t h in
    let all = number_by_children cluster passes h l t in
    omega (arith, none, least, all)

-- ---- good answers

-- where all are answered, so is each
each_answered : (at : ℕ → Bool) (n : ℕ) → list_all at (up_to n) ≡ true → (k : ℕ) → 1 ≤ k → k ≤ n → at k ≡ true
each_answered at zero all k low high = absurd (omega (arith, low, high))
each_answered at (suc n) all k low high = by_both (at (suc n)) (list_all at (up_to n)) refl refl (sym (list_all-append at (up_to n) (suc n ∷ [])) ∙ all) (λ rest. each_answered at n rest k low)
  where
    by_number : at (suc n) ≡ true → (n < k) ⊎ (k ≤ n) → (k ≤ n → at k ≡ true) → at k ≡ true
    by_number last (inl more) before = ap at (let same : k ≡ suc n = omega (arith, high, more) in same) ∙ last
    by_number last (inr less) before = before less

    by_both : (last rest : Bool) → at (suc n) ≡ last → list_all at (up_to n) ≡ rest → (rest && (last && true)) ≡ true → (list_all at (up_to n) ≡ true → k ≤ n → at k ≡ true) → at k ≡ true
    by_both true true e r both before = by_number e (cases_lt n k) (before r)
    by_both false true e r both before = absurd (cc)
    by_both last false e r both before = absurd (cc)

-- nothing is left to ask for, all is answered, and no answer tells of a failure
pub record IsDone (wanted : ℕ → Option Request) (asked : List Asked) : Type 0 where
  pub none_left : wanted (length asked) ≡ None
  pub answered : are_answered asked ≡ true
  pub good : sum_by failures_of (answers_in asked) ≡ 0

-- an ask was for what it was to be for, and the task that was put for it has replied without a failure
pub record IsGoodAsk (said : Scripted) (wanted : ℕ → Option Request) (t : TaskId) (h : List Event) (k : ℕ) : Type 0 where
  pub child : Request
  pub wants : wanted (k - 1) ≡ Some child
  pub task : TaskId
  pub put : child_of t k h ≡ Some task
  pub asked : request_of said task h ≡ Some child
  pub reply : Reply
  pub replied : reply_of task h ≡ Some reply
  pub unfailing : failures_of reply ≡ 0

module _ (cluster : Cluster) (corpus : Corpus) (said : Scripted) (request : Request) (wanted : ℕ → Option Request) (told : List Asked → Counts)
    (does : (t : TaskId) (made : Corpus) (q : Progress) (now : ℕ) → (kind_of request).step cluster made t q now ≡ ask_or_end (wanted (length q.asked)) (are_answered q.asked) (Wrote (told q.asked))) where
  -- ---- what it has asked for

  abbrev IsAsk : TaskId → List Event → ℕ → Type 0
  IsAsk p h k = (child : Request) × (request_of_ask p k h ≡ Some child) × (wanted (k - 1) ≡ Some child)

  newest_ask : (q : TaskId) (j n : ℕ) (child : Request) (h : List Event) → Lawful cluster (Ask q j n child ∷ h) → AllPlanned cluster corpus said (Ask q j n child ∷ h) → request_of said q h ≡ Some request → wanted (j - 1) ≡ Some child
  newest_ask q j n child h l planned asked =
      let step = asks_by_plan cluster corpus said h (Ask q j n child) planned.0.0 q j n child request refl asked in
      let next = asks_next (wanted (length (asked_by q h))) (are_answered (asked_by q h)) (Wrote (told (asked_by q h))) child (sym (does q (corpus_at corpus said h) (progress_of cluster corpus said q request h) (clock h)) ∙ step) in
      let made = asks_made cluster q h l.1 in
      let number : j - 1 ≡ length (asked_by q h) = omega (arith, made, l.0.next) in
      ap wanted number ∙ next

  -- it has asked for what it was to ask for, in order
  pub all_asked : (p : TaskId) (h : List Event) → Lawful cluster h → AllPlanned cluster corpus said h → request_of said p h ≡ Some request → (k : ℕ) → 1 ≤ k → k ≤ last_ask p h → IsAsk p h k
  all_asked p [] l planned e k low high = absurd (omega (arith, low, high))
  all_asked p (Root n u ∷ h) l planned e k low high = by_task (same_task p u) refl (all_asked p h l.1 planned.1)
    where
      by_task : (b : Bool) → same_task p u ≡ b → (request_of said p h ≡ Some request → (k : ℕ) → 1 ≤ k → k ≤ last_ask p h → IsAsk p h k) → IsAsk p h k
      by_task true own before = let f = ask_facts cluster h l.1 in let unborn = f.unborn_asks p (grind (arith, same_tests, l.0.takes.next)) in absurd (omega (arith, unborn, low, high))
      by_task false other before = before (rw other at e) k low high
  all_asked p (Put u q j ∷ h) l planned e k low high = by_task (same_task p u) refl (all_asked p h l.1 planned.1)
    where
      by_task : (b : Bool) → same_task p u ≡ b → (request_of said p h ≡ Some request → (k : ℕ) → 1 ≤ k → k ≤ last_ask p h → IsAsk p h k) → IsAsk p h k
      by_task true own before = let f = ask_facts cluster h l.1 in let unborn = f.unborn_asks p (grind (arith, same_tests, l.0.takes.next)) in absurd (omega (arith, unborn, low, high))
      by_task false other before = before (rw other at e) k low high
  all_asked p (Ask q j n child ∷ h) l planned e k low high = by_pair (same_pair p k q j) refl (all_asked p h l.1 planned.1 e k low)
    where
      newest : same_pair p k q j ≡ true → wanted (k - 1) ≡ Some child
      newest one =
          let own : q ≡ p = grind (arith, same_tests) in
          let number : k ≡ j = grind (arith, same_tests) in
          ap (λ i. wanted (i - 1)) number ∙ newest_ask q j n child h l planned (ap (λ x. request_of said x h) own ∙ e)

      by_pair : (b : Bool) → same_pair p k q j ≡ b → (k ≤ last_ask p h → IsAsk p h k) → IsAsk p (Ask q j n child ∷ h) k
      by_pair true one before = (child, rw one refl, newest one)
      by_pair false other before = let was = before (grind (arith, same_tests, l.0.next)) in (was.0, rw other was.1, was.2)
  all_asked p (_ ∷ h) l planned e k low high = all_asked p h l.1 planned.1 e k low high

  -- ---- once it has ended without a failure

  pub all_done : ((asked : List Asked) → (told asked).failures ≡ sum_by failures_of (answers_in asked)) → (h : List Event) → Lawful cluster h → KeepsToKinds said h → AllPlanned cluster corpus said h → (t : TaskId) (reply : Reply)
      → failures_of reply ≡ 0 → reply_of t h ≡ Some reply → request_of said t h ≡ Some request → IsDone wanted (asked_by t h)
  all_done counts =
      ended_says cluster corpus said request (λ last. failures_of last ≡ 0) (λ u c good. absurd (omega (arith, good))) (λ t h. IsDone wanted (asked_by t h))
      (λ e h t l ended done. subst (IsDone wanted) (sym (asked_stays cluster e h t l ended)) done) (λ t last h done. done) at_end
    where
      at_end : (h : List Event) (t : TaskId) (last : Reply) → Lawful cluster (End t last ∷ h) → KeepsToKinds said h → AllPlanned cluster corpus said (End t last ∷ h) → request_of said t h ≡ Some request → failures_of last ≡ 0 → IsDone wanted (asked_by t h)
      at_end h t last l keeps planned asked good =
          let step = ends_by_plan cluster corpus said h (End t last) planned.0.0 t last request refl (good_alive last good) asked in
          let ends = ends_none (wanted (length (asked_by t h))) (are_answered (asked_by t h)) (Wrote (told (asked_by t h))) last (sym (does t (corpus_at corpus said h) (progress_of cluster corpus said t request h) (clock h)) ∙ step) in
          record { none_left = ends.0; answered = ends.1; good = sym (counts (asked_by t h)) ∙ ap failures_of ends.2 ∙ good }

  module _ (h : List Event) (l : Lawful cluster h) (planned : AllPlanned cluster corpus said h) (t : TaskId) (last : Reply) (replied : reply_of t h ≡ Some last) (asked : request_of said t h ≡ Some request) (done : IsDone wanted (asked_by t h)) where
    pub good_ask : (k : ℕ) → 1 ≤ k → k ≤ last_ask t h → IsGoodAsk said wanted t h k
    good_ask k low high = by_answer (answer_of t k h) refl some
      where
        for_what : IsAsk t h k
        for_what = all_asked t h l planned asked k low high

        some : is_some (answer_of t k h) ≡ true
        some =
            ap is_some (sym (all_come cluster h l t last replied k))
            ∙ each_answered (λ j. is_some (answer_come t h j)) (last_ask t h)
            (sym (list_all-map (λ a. is_some a.answer) (asked_at t h) (up_to (last_ask t h))) ∙ ap are_answered (sym (asked_in_order cluster t h l)) ∙ done.answered) k low high

        of_answer : (answer : Reply) → IsGoodAnswer t h k answer → IsGoodAsk said wanted t h k
        of_answer answer is = record {
          child = for_what.0;
          wants = for_what.2;
          task = is.child;
          put = is.put;
          asked = child_request cluster corpus said h l t k is.child is.put ∙ for_what.1;
          reply = answer;
          replied = is.replied;
          unfailing = is.fine;
        }

        by_answer : (o : Option Reply) → answer_of t k h ≡ o → is_some o ≡ true → IsGoodAsk said wanted t h k
        by_answer None told has = absurd (cc)
        by_answer (Some answer) told has = of_answer answer (good_answer cluster h l t last replied done.good k answer low high told)

    -- it has made as many asks as there are things to ask for
    pub as_many_asks : (n : ℕ) → ((i : ℕ) → wanted i ≡ None → n ≤ i) → ((i : ℕ) (child : Request) → wanted i ≡ Some child → i < n) → last_ask t h ≡ n
    as_many_asks n past within =
        let enough = past (length (asked_by t h)) done.none_left in
        let made = asks_made cluster t h l in
        let most = no_more (last_ask t h) refl in
        omega (arith, enough, made, most)
      where
        no_more : (m : ℕ) → last_ask t h ≡ m → m ≤ n
        no_more zero e = omega arith
        no_more (suc m) e =
            let is = all_asked t h l planned asked (suc m) (omega arith) (omega (arith, e)) in
            let inside = within (suc m - 1) is.0 is.2 in
            omega (arith, inside)
