-- Where all asks of a task are answered, the answers tell what the trees of its children have written.
use Rattle.std.proofs.Common.{◌≡◌, ◌+◌, ℕ, zero, suc, Bool, true, false, List, [], ◌∷◌, map, Option, Some, None, refl, sym, ap, ◌∙◌, arith}
use Rattle.std.specs.List.{list_any, sum_by}
use Rattle.std.specs.Option.{option_map_or}
use Rattle.std.specs.Prelude.{◌==◌, filter_map, option_and_then}
use Rattle.std.proofs.lemmas.List.{map-append}
use Rattle.std.proofs.lemmas.List.Elements.{filter_map-append}
use Rattle.std.proofs.lemmas.List.Sums.{sum_by-append, sum_by-cons}
use Rattle.task_ids.specs.declared.task_id.TaskId.{TaskId}
use Rattle.task_ids.specs.declared.cluster.Cluster.{Cluster}
use Rattle.task_events.specs.declared.event.Event.{Event}
use Rattle.task_events.specs.declared.event.Event.TheVariants.{Refuse, End}
use Rattle.task_events.specs.declared.event.Outcome.{Outcome}
use Rattle.task_events.specs.declared.reply.Counts.{Counts}
use Rattle.task_events.specs.declared.reply.Reply.{Reply}
use Rattle.task_events.specs.declared.reply.Reply.TheVariants.{Cancelled}
use Rattle.task_events.specs.declared.step.Asked.{Asked}
use Rattle.task_events.specs.Asks.{answer_or, is_unanswered, last_ask, rejection_of, unanswered, up_to}
use Rattle.task_events.specs.Counting.{answers_in, carried}
use Rattle.task_events.specs.Lawful.{Lawful}
use Rattle.task_events.specs.Same.{same_task}
use Rattle.task_events.specs.Steps.{asked_by}
use Rattle.task_events.specs.Tasks.{ask_of, child_of, has_ended, is_live, no_counts, parent_of, reply_of}
use Rattle.task_laws.proofs.Asks.{AskFacts, ask_facts, child_unanswered}
use Rattle.task_laws.proofs.Content.{answer_facts}
use Rattle.task_laws.proofs.Pending.{is_pending}
use Rattle.task_laws.proofs.Same.{same_tests}
use Rattle.write_laws.specs.TreeWrites.{tree_writes}
use Rattle.write_laws.proofs.AskedInOrder.{answer_come, asked_at, asked_in_order}
use Rattle.write_laws.proofs.Sums.{sum_to, sums_agree}
use Rattle.write_laws.proofs.Tells.{IsNumberOf}
use Rattle.write_laws.proofs.Trees.{child_writes, children_writes}

-- ---- sums of answers

module _ (weight : Reply → ℕ) (answer : Asked → Option Reply) where
  of_one : (a : Asked) (o : Option Reply) → answer a ≡ o → sum_by weight (filter_map answer (a ∷ [])) ≡ option_map_or weight o 0
  of_one a None e = rw e refl
  of_one a (Some reply) e = rw e (omega (arith, sum_by-cons weight reply []))

  pub of_all : (at : ℕ → Asked) (n : ℕ) → sum_by weight (filter_map answer (map at (up_to n))) ≡ sum_to (λ k. option_map_or weight (answer (at k)) 0) n
  of_all at zero = refl
  of_all at (suc n) =
      ap (λ xs. sum_by weight (filter_map answer xs)) (map-append at (up_to n) (suc n ∷ []))
      ∙ ap (sum_by weight) (filter_map-append answer (map at (up_to n)) (at (suc n) ∷ []))
      ∙ sum_by-append weight (filter_map answer (map at (up_to n))) (filter_map answer (at (suc n) ∷ []))
      ∙ (λ i. of_all at n i + of_one (at (suc n)) (answer (at (suc n))) refl i)

-- what has ended has replied
ended_replied : (t : TaskId) (h : List Event) → has_ended t h ≡ true → (reply : Reply) × (reply_of t h ≡ Some reply)
ended_replied t [] e = absurd (cc)
ended_replied t (Refuse u c ∷ h) e = by_task (same_task t u) refl (λ before. ended_replied t h before)
  where
    by_task : (b : Bool) → same_task t u ≡ b → (has_ended t h ≡ true → (reply : Reply) × (reply_of t h ≡ Some reply)) → (reply : Reply) × (reply_of t (Refuse u c ∷ h) ≡ Some reply)
    by_task true own before = (Cancelled u c no_counts, rw own refl)
    by_task false other before = let was = before (rw other at e) in (was.0, rw other was.1)
ended_replied t (End u r ∷ h) e = by_task (same_task t u) refl (λ before. ended_replied t h before)
  where
    by_task : (b : Bool) → same_task t u ≡ b → (has_ended t h ≡ true → (reply : Reply) × (reply_of t h ≡ Some reply)) → (reply : Reply) × (reply_of t (End u r ∷ h) ≡ Some reply)
    by_task true own before = (r, rw own refl)
    by_task false other before = let was = before (rw other at e) in (was.0, rw other was.1)
ended_replied t (_ ∷ h) e = ended_replied t h e

module _ (cluster : Cluster) (h : List Event) (l : Lawful cluster h) (t : TaskId) (answered : unanswered t h ≡ []) (test : Outcome → Bool) (number : Counts → ℕ) (is : IsNumberOf test number)
    (told : (k : ℕ) (c : TaskId) (reply : Reply) → child_of t k h ≡ Some c → reply_of c h ≡ Some reply → number (carried reply) ≡ tree_writes test c h) where
  f : AskFacts h
  f = ask_facts cluster h l

  none_open : (k : ℕ) → is_unanswered t k h ≡ false
  none_open k = is_pending t k h ∙ ap (list_any (λ a. a.ask == k)) answered

  abbrev weight : Reply → ℕ
  weight reply = number (carried reply)

  -- the child of an answered ask has ended
  child_ended : (k : ℕ) (c : TaskId) → child_of t k h ≡ Some c → has_ended c h ≡ true
  child_ended k c e = by_life (is_live c h) refl
    where
      mine : parent_of c h ≡ Some t
      mine = let known = f.child_knows t k c e in grind (arith, same_tests, known)

      by_life : (b : Bool) → is_live c h ≡ b → has_ended c h ≡ true
      by_life false dead = f.put_lives c t mine dead
      by_life true live = absurd (let waits = child_unanswered c t h f mine live in let no : true ≡ false = sym waits ∙ none_open (ask_of c h) in cc)

  by_child : (k : ℕ) (o : Option TaskId) → child_of t k h ≡ o → option_map_or weight (option_and_then (λ c. reply_of c h) o) 0 ≡ option_map_or (λ c. tree_writes test c h) o 0
  by_child k None e = refl
  by_child k (Some c) e = let reply = ended_replied c h (child_ended k c e) in rw reply.1 (told k c reply.0 e reply.1)

  by_rejection : (k : ℕ) (o : Option ℕ) → rejection_of t k h ≡ o → option_map_or weight (answer_or o (option_and_then (λ c. reply_of c h) (child_of t k h))) 0 ≡ child_writes test t h k
  by_rejection k None e = by_child k (child_of t k h) refl
  by_rejection k (Some n) e =
      let none = (answer_facts cluster h l).rejected_put t k n e in
      is.none ∙ sym (ap (λ o. option_map_or (λ c. tree_writes test c h) o 0) none.1)

  answer_tells : (k : ℕ) → option_map_or weight (answer_come t h k) 0 ≡ child_writes test t h k
  answer_tells k = rw (none_open k) (by_rejection k (rejection_of t k h) refl)

  pub answers_tell : sum_by weight (answers_in (asked_by t h)) ≡ children_writes test t h
  answers_tell =
      ap (λ asked. sum_by weight (answers_in asked)) (asked_in_order cluster t h l)
      ∙ of_all weight (λ a. a.answer) (asked_at t h) (last_ask t h)
      ∙ sums_agree _ _ answer_tells (last_ask t h)
