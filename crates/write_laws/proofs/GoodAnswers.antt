-- Where a task has ended, and the answers to its asks together tell of no failure, each is the reply of a child that tells of none.
use Rattle.std.proofs.Common.{◌≡◌, ◌≤◌, ℕ, Bool, true, false, cond, Option, Some, None, refl, sym, ap, ◌∙◌, List, arith}
use Rattle.std.specs.List.{sum_by}
use Rattle.std.specs.Option.{option_map_or}
use Rattle.std.specs.Prelude.{option_and_then}
use Rattle.task_ids.specs.declared.cluster.Cluster.{Cluster}
use Rattle.task_ids.specs.declared.task_id.TaskId.{TaskId}
use Rattle.task_events.specs.declared.event.Event.{Event}
use Rattle.task_events.specs.declared.reply.Reply.{Reply}
use Rattle.task_events.specs.declared.reply.Reply.TheVariants.{Cancelled, Rejected}
use Rattle.task_events.specs.Asks.{answer_of, answer_or, is_unanswered, last_ask, rejection_of}
use Rattle.task_events.specs.Counting.{answers_in, failures_of}
use Rattle.task_events.specs.Lawful.{Lawful}
use Rattle.task_events.specs.Steps.{asked_by}
use Rattle.task_events.specs.Tasks.{child_of, reply_of}
use Rattle.task_laws.proofs.Asks.{ask_facts}
use Rattle.task_laws.proofs.Content.{answer_facts}
use Rattle.write_laws.proofs.AnswersCount.{of_all}
use Rattle.write_laws.proofs.AskedInOrder.{answer_come, asked_at, asked_in_order}
use Rattle.write_laws.proofs.StepCases.{is_cancelled}
use Rattle.write_laws.proofs.Sums.{each_none}

-- what did not fail was not cancelled
pub good_alive : (reply : Reply) → failures_of reply ≡ 0 → is_cancelled reply ≡ false
good_alive (Cancelled t c counts) good = absurd (omega (arith, good))
good_alive _ good = refl

-- the answer to an ask is the reply of its child, and tells of no failure
pub record IsGoodAnswer (t : TaskId) (h : List Event) (k : ℕ) (answer : Reply) : Type 0 where
  pub child : TaskId
  pub put : child_of t k h ≡ Some child
  pub replied : reply_of child h ≡ Some answer
  pub fine : failures_of answer ≡ 0

-- where all answers together tell of no failure, so does each
pub none_failed : (cluster : Cluster) (t : TaskId) (h : List Event) → Lawful cluster h → sum_by failures_of (answers_in (asked_by t h)) ≡ 0 → (k : ℕ) → 1 ≤ k → k ≤ last_ask t h → option_map_or failures_of (answer_come t h k) 0 ≡ 0
none_failed cluster t h l good =
    each_none (λ j. option_map_or failures_of (answer_come t h j) 0) (last_ask t h)
    (sym (of_all failures_of (λ a. a.answer) (asked_at t h) (last_ask t h)) ∙ ap (λ xs. sum_by failures_of (answers_in xs)) (sym (asked_in_order cluster t h l)) ∙ good)

module _ (cluster : Cluster) (h : List Event) (l : Lawful cluster h) (t : TaskId) (last : Reply) (replied : reply_of t h ≡ Some last) where
  -- what has ended waits for nothing
  pub all_come : (k : ℕ) → answer_come t h k ≡ answer_of t k h
  all_come k = by_open (is_unanswered t k h) refl
    where
      by_open : (b : Bool) → is_unanswered t k h ≡ b → cond b None (answer_of t k h) ≡ answer_of t k h
      by_open false e = refl
      by_open true e = absurd
          (let f = ask_facts cluster h l in
          let live = f.live_or_ended t (f.live_asker t k e) in
          let ended = (answer_facts cluster h l).reply_ended t last replied in
          let no : true ≡ false = sym ended ∙ live in cc)

  pub good_answer : sum_by failures_of (answers_in (asked_by t h)) ≡ 0 → (k : ℕ) (answer : Reply) → 1 ≤ k → k ≤ last_ask t h → answer_of t k h ≡ Some answer → IsGoodAnswer t h k answer
  good_answer good k answer low high e = by_rejection (rejection_of t k h) (child_of t k h) refl e
    where
      fails_not : failures_of answer ≡ 0
      fails_not = sym (ap (λ o. option_map_or failures_of o 0) (all_come k ∙ e)) ∙ none_failed cluster t h l good k low high

      by_rejection : (rejected : Option ℕ) (o : Option TaskId) → child_of t k h ≡ o → answer_or rejected (option_and_then (λ c. reply_of c h) o) ≡ Some answer → IsGoodAnswer t h k answer
      by_rejection (Some n) o put e = absurd (let is : Rejected n ≡ answer = cc in let one : 1 ≡ 0 = ap failures_of is ∙ fails_not in omega (arith, one))
      by_rejection None None put e = absurd (cc)
      by_rejection None (Some c) put e = record { child = c; put = put; replied = e; fine = fails_not }
