-- Each task that a cancellation named is marked, but for one that the newest event names.
use Rattle.std.proofs.Common.{◌≡◌, ◌≢◌, ℕ, Bool, true, false, cond, List, [], ◌∷◌, Option, Some, None, refl, subst, arith}
use Rattle.task_ids.specs.declared.task_id.TaskId.{TaskId}
use Rattle.task_ids.specs.declared.cluster.Cluster.{Cluster}
use Rattle.task_events.specs.declared.event.Event.{Event}
use Rattle.task_events.specs.declared.event.Event.TheVariants.{Cancel, Mark}
use Rattle.task_events.specs.Same.{same_task, same_pair}
use Rattle.task_events.specs.Bans.{mark_of}
use Rattle.task_events.specs.Cancels.{is_named}
use Rattle.task_events.specs.Lawful.{AwaitsNoMark, MarksTheNamed, Lawful}
use Rattle.task_laws.proofs.Same.{same_tests}

-- the newest event names the task
abbrev names_last : TaskId → List Event → Bool
names_last t (Cancel d u wait ∷ h) = same_task t u
names_last t _ = false

-- where no mark is awaited, the task that was named last is marked
last_marked : (t : TaskId) (h : List Event) → names_last t h ≡ true → AwaitsNoMark h → mark_of t h ≡ None → ⊥
last_marked t (Cancel d u wait ∷ h) n a m = let same : t ≡ u = grind (arith, same_tests) in a (subst (λ x. mark_of x h ≡ None) same m)
last_marked t [] n a m = cc
last_marked t (_ ∷ h) n a m = cc

-- the mark that is awaited is that of the task that was named last
this_mark : (t v : TaskId) (d : ℕ) (h : List Event) → names_last t h ≡ true → MarksTheNamed v d h → mark_of t h ≡ None → same_task t v ≡ true
this_mark t v d (Cancel e u wait ∷ h) n a m =
    let same : t ≡ u = grind (arith, same_tests) in
    let marks = a (subst (λ x. mark_of x h ≡ None) same m) in
    grind (arith, same_tests)
this_mark t v d [] n a m = absurd (cc)
this_mark t v d (_ ∷ h) n a m = absurd (cc)

-- the task is the one that is named now, since no other unmarked one is there
named_now : (c d : ℕ) (t u : TaskId) (h : List Event) → (is_named c t h ≡ true → ⊥) → (b : Bool) → same_pair t c u d ≡ b → cond b true (is_named c t h) ≡ true → same_task t u ≡ true
named_now c d t u h before true e i = grind (arith, same_tests)
named_now c d t u h before false e i = absurd (before i)

-- the task is not the one that is marked now
other_mark : (d : ℕ) (o : Option ℕ) (b : Bool) → cond b (Some d) o ≡ None → b ≡ false
other_mark d o true m = absurd (cc)
other_mark d o false m = refl

-- a named task that is not marked was named last
unmarked_last : (cluster : Cluster) (h : List Event) → Lawful cluster h → (c : ℕ) (t : TaskId) → is_named c t h ≡ true → mark_of t h ≡ None → names_last t h ≡ true
unmarked_last cluster [] l c t i m = absurd (cc)
unmarked_last cluster (Cancel d u w ∷ h) l c t i m =
    named_now c d t u h (λ j. last_marked t h (unmarked_last cluster h l.1 c t j m) l.2 m) (same_pair t c u d) refl i
unmarked_last cluster (Mark v d ∷ h) l c t i m =
    let other = other_mark d (mark_of t h) (same_task t v) m in
    let before : mark_of t h ≡ None = rw other at m in
    absurd (let mine = this_mark t v d h (unmarked_last cluster h l.1 c t i before) l.2 before in cc)
unmarked_last cluster (_ ∷ h) l c t i m = absurd (last_marked t h (unmarked_last cluster h l.1 c t i m) l.2 m)

pub named_marked : (cluster : Cluster) (h : List Event) → Lawful cluster h → AwaitsNoMark h → (c : ℕ) (t : TaskId) → is_named c t h ≡ true → mark_of t h ≢ None
named_marked cluster h l a c t i m = last_marked t h (unmarked_last cluster h l c t i m) a m
