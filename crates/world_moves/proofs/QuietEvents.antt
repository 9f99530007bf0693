-- What an event that is of no task's start, ask or end leaves as it was.
use Rattle.std.proofs.Common.{◌≡◌, ℕ, Bool, true, false, List, ◌∷◌, refl}
use Rattle.task_ids.specs.declared.task_id.TaskId.{TaskId}
use Rattle.task_events.specs.declared.event.Event.{Event}
use Rattle.task_events.specs.declared.event.Event.TheVariants.{Begin, Root, Ask, Put, Pass, Refuse, Answered, End, Tick}
use Rattle.task_events.specs.Asks.{request_of_ask, is_unanswered}
use Rattle.task_events.specs.Contexts.{context_at, page_of}
use Rattle.task_events.specs.Requests.{Scripted, request_of}
use Rattle.task_events.specs.Same.{same_pair}
use Rattle.task_events.specs.Tasks.{is_live, has_ended, is_new, parent_of, reply_of}
use Rattle.search_phase.proofs.Sorting.{by_test}

-- the event starts, lets pass or ends no task, is no ask, begins no command and moves no clock
abbrev pub leaves_contexts : Event → Bool
leaves_contexts (Begin k) = false
leaves_contexts (Root k t) = false
leaves_contexts (Ask p k n r) = false
leaves_contexts (Put t p k) = false
leaves_contexts (Pass t) = false
leaves_contexts (Refuse t c) = false
leaves_contexts (End t reply) = false
leaves_contexts (Tick ms) = false
leaves_contexts _ = true

-- what is so of tasks and contexts is as it was, but that asks may be answered
pub record IsAsBefore (said : Scripted) (h later : List Event) : Type 0 where
  pub context : (id : TaskId) → context_at said id later ≡ context_at said id h
  pub live : (t : TaskId) → is_live t later ≡ is_live t h
  pub new : (t : TaskId) → is_new t later ≡ is_new t h
  pub ended : (t : TaskId) → has_ended t later ≡ has_ended t h
  pub parent : (t : TaskId) → parent_of t later ≡ parent_of t h
  pub request : (t : TaskId) → request_of said t later ≡ request_of said t h
  pub reply : (t : TaskId) → reply_of t later ≡ reply_of t h
  pub page : (t : TaskId) → page_of said t later ≡ page_of said t h
  pub asked : (p : TaskId) (k : ℕ) → request_of_ask p k later ≡ request_of_ask p k h
  pub waits : (p : TaskId) (k : ℕ) → is_unanswered p k later ≡ true → is_unanswered p k h ≡ true

module _ (said : Scripted) (h : List Event) where
  pub as_before : (e : Event) → leaves_contexts e ≡ true → IsAsBefore said h (e ∷ h)
  as_before (Begin k) q = absurd (cc)
  as_before (Root k t) q = absurd (cc)
  as_before (Ask p k n r) q = absurd (cc)
  as_before (Put t p k) q = absurd (cc)
  as_before (Pass t) q = absurd (cc)
  as_before (Refuse t c) q = absurd (cc)
  as_before (End t reply) q = absurd (cc)
  as_before (Tick ms) q = absurd (cc)
  as_before (Answered p k) q = record {
    context = λ id. refl;
    live = λ t. refl;
    new = λ t. refl;
    ended = λ t. refl;
    parent = λ t. refl;
    request = λ t. refl;
    reply = λ t. refl;
    page = λ t. refl;
    asked = λ q j. refl;
    waits = λ q j e. by_test (same_pair q j p k) (λ same. absurd (let f : false ≡ true = rw same at e in cc)) (λ apart. rw apart at e);
  }
  as_before _ q = record {
    context = λ id. refl;
    live = λ t. refl;
    new = λ t. refl;
    ended = λ t. refl;
    parent = λ t. refl;
    request = λ t. refl;
    reply = λ t. refl;
    page = λ t. refl;
    asked = λ q j. refl;
    waits = λ q j e. e;
  }
