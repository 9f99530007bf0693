-- A task's own search, and who shows a page of its context, stay what they are.
use Rattle.std.proofs.Common.{◌≡◌, ◌≢◌, ◌⊎◌, ◌+◌, Bool, true, false, List, [], ◌∷◌, Some, refl, sym, ap, ◌∙◌, inl, inr, arith}
use Rattle.task_ids.specs.declared.cluster.Cluster.{Cluster}
use Rattle.task_ids.specs.declared.task_id.TaskId.{TaskId}
use Rattle.task_events.specs.declared.event.Event.{Event}
use Rattle.task_events.specs.declared.event.Event.TheVariants.{Root, Put, Pass, Refuse, End}
use Rattle.task_events.specs.declared.reply.Reply.{Reply}
use Rattle.task_events.specs.declared.reply.Reply.TheVariants.{Search}
use Rattle.task_events.specs.Allowed.{Allowed}
use Rattle.task_events.specs.Requests.{Scripted}
use Rattle.task_events.specs.Same.{same_task}
use Rattle.task_events.specs.Tasks.{is_live, has_ended, reply_of, last_number}
use Rattle.task_laws.proofs.Asks.{AskFacts}
use Rattle.task_laws.proofs.Same.{same_task_tells, same_tests}
use Rattle.search_phase.proofs.Sorting.{by_test}
use Rattle.world_moves.specs.Owning.{IsSearchOf, IsShownBy}

-- ---- what is so of a task stays so

-- who has replied has ended
pub replied_ended : (t : TaskId) (h : List Event) (reply : Reply) → reply_of t h ≡ Some reply → has_ended t h ≡ true
replied_ended t [] reply e = absurd (cc)
replied_ended t (Refuse u c ∷ h) reply e = by_test (same_task t u) (λ same. rw same refl) (λ other. rw other (replied_ended t h reply (rw other at e)))
replied_ended t (End u r ∷ h) reply e = by_test (same_task t u) (λ same. rw same refl) (λ other. rw other (replied_ended t h reply (rw other at e)))
replied_ended t (_ ∷ h) reply e = replied_ended t h reply e

-- another task than one that has not ended
pub ended_apart : (t u : TaskId) (h : List Event) → has_ended t h ≡ true → has_ended u h ≡ false → same_task t u ≡ false
ended_apart t u h e f = of_case (same_task_tells t u)
  where
    of_case : ((same_task t u ≡ true) × (t ≡ u)) ⊎ ((same_task t u ≡ false) × (t ≢ u)) → same_task t u ≡ false
    of_case (inl (is_one, same)) = absurd (let f : true ≡ false = sym e ∙ ap (λ v. has_ended v h) same ∙ f in cc)
    of_case (inr (differs, apart)) = differs

pub live_apart : (t u : TaskId) (h : List Event) → is_live t h ≡ true → is_live u h ≡ false → same_task t u ≡ false
live_apart t u h e f = of_case (same_task_tells t u)
  where
    of_case : ((same_task t u ≡ true) × (t ≡ u)) ⊎ ((same_task t u ≡ false) × (t ≢ u)) → same_task t u ≡ false
    of_case (inl (is_one, same)) = absurd (let f : true ≡ false = sym e ∙ ap (λ v. is_live v h) same ∙ f in cc)
    of_case (inr (differs, apart)) = differs

-- the event ends this task
abbrev pub ends_it : TaskId → Event → Bool
ends_it t (End u r) = same_task t u
ends_it t _ = false

module _ (cluster : Cluster) (said : Scripted) (h : List Event) (f : AskFacts h) where
  -- a task that starts was not there
  pub fresh_ended : (t : TaskId) → t.number ≡ last_number t.node h + 1 → has_ended t h ≡ false
  fresh_ended t next = f.unborn_ended t (omega arith)

  fresh_live : (t : TaskId) → t.number ≡ last_number t.node h + 1 → is_live t h ≡ false
  fresh_live t next = by_test (is_live t h) (λ live. absurd (let born = f.born t live in omega arith)) (λ none. none)

  pub search_ended : (owner search : TaskId) → IsSearchOf said owner search h → has_ended search h ≡ true
  search_ended owner search s = replied_ended search h (Search s.found) s.ended

  pub search_on : (e : Event) → Allowed cluster e h → (owner search : TaskId) → IsSearchOf said owner search h → IsSearchOf said owner search (e ∷ h)
  search_on (Root k t) a owner search s =
      let other = ended_apart search t h (search_ended owner search s) (fresh_ended t a.takes.next) in
      record { ask = s.ask; found = s.found; parent = s.parent; asked = rw other s.asked; own = s.own; ended = s.ended }
  search_on (Put t q k) a owner search s =
      let other = ended_apart search t h (search_ended owner search s) (fresh_ended t a.takes.next) in
      record { ask = s.ask; found = s.found; parent = rw other s.parent; asked = rw other s.asked; own = s.own; ended = s.ended }
  search_on (Refuse t c) a owner search s =
      let other = ended_apart search t h (search_ended owner search s) (f.live_or_ended t a.live) in
      record { ask = s.ask; found = s.found; parent = s.parent; asked = s.asked; own = s.own; ended = rw other s.ended }
  search_on (End t r) a owner search s =
      let other = ended_apart search t h (search_ended owner search s) (f.live_or_ended t a.goes_on.live) in
      record { ask = s.ask; found = s.found; parent = s.parent; asked = s.asked; own = s.own; ended = rw other s.ended }
  search_on _ a owner search s = record { ask = s.ask; found = s.found; parent = s.parent; asked = s.asked; own = s.own; ended = s.ended }

  -- it was one before, unless it has just ended
  pub search_back : (e : Event) → Allowed cluster e h → (owner search : TaskId) → ends_it search e ≡ false → IsSearchOf said owner search (e ∷ h) → IsSearchOf said owner search h
  search_back (Root k t) a owner search other s =
      let apart = ended_apart search t h (replied_ended search h (Search s.found) s.ended) (fresh_ended t a.takes.next) in
      record { ask = s.ask; found = s.found; parent = s.parent; asked = rw apart at s.asked; own = s.own; ended = s.ended }
  search_back (Put t q k) a owner search other s =
      let apart = ended_apart search t h (replied_ended search h (Search s.found) s.ended) (fresh_ended t a.takes.next) in
      record { ask = s.ask; found = s.found; parent = rw apart at s.parent; asked = rw apart at s.asked; own = s.own; ended = s.ended }
  search_back (Refuse t c) a owner search other s =
      by_test (same_task search t)
      (λ same. absurd (let g = rw same at s.ended in cc))
      (λ apart. record { ask = s.ask; found = s.found; parent = s.parent; asked = s.asked; own = s.own; ended = rw apart at s.ended })
  search_back (End t r) a owner search other s = record { ask = s.ask; found = s.found; parent = s.parent; asked = s.asked; own = s.own; ended = rw other at s.ended }
  search_back _ a owner search other s = record { ask = s.ask; found = s.found; parent = s.parent; asked = s.asked; own = s.own; ended = s.ended }

  -- who shows a page does so until it ends
  pub shown_on : (e : Event) → Allowed cluster e h → (owner id user : TaskId) → ends_it user e ≡ false → IsShownBy said owner id user h → IsShownBy said owner id user (e ∷ h)
  shown_on (Root k t) a owner id user goes_on s =
      let other = live_apart user t h s.live (fresh_live t a.takes.next) in
      record { ask = s.ask; live = rw other s.live; passed = s.passed; parent = s.parent; asked = rw other s.asked; shows = s.shows }
  shown_on (Put t q k) a owner id user goes_on s =
      let other = live_apart user t h s.live (fresh_live t a.takes.next) in
      record { ask = s.ask; live = rw other s.live; passed = rw other s.passed; parent = rw other s.parent; asked = rw other s.asked; shows = s.shows }
  shown_on (Pass t) a owner id user goes_on s =
      record { ask = s.ask; live = s.live; passed = by_test (same_task user t) (λ same. rw same refl) (λ other. rw other s.passed); parent = s.parent; asked = s.asked; shows = s.shows }
  shown_on (Refuse t c) a owner id user goes_on s =
      let first = a.first in
      let passed = s.passed in
      let other : same_task user t ≡ false = grind (arith, same_tests) in
      record { ask = s.ask; live = rw other s.live; passed = rw other s.passed; parent = s.parent; asked = s.asked; shows = s.shows }
  shown_on (End t r) a owner id user goes_on s = record { ask = s.ask; live = rw goes_on s.live; passed = s.passed; parent = s.parent; asked = s.asked; shows = s.shows }
  shown_on _ a owner id user goes_on s = record { ask = s.ask; live = s.live; passed = s.passed; parent = s.parent; asked = s.asked; shows = s.shows }
