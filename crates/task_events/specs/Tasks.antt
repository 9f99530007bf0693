-- Which tasks are live and which have ended, what their numbers are, and the tree that they form.
-- A history is the list of its events with the newest first; so each question goes by the newest event.
use Rattle.std.specs.Prelude.{ℕ, ◌+◌, ◌-◌, Bool, true, false, List, [], ◌∷◌, Option, Some, None, filter, not, cond, if◌then◌else◌, ◌==◌}
use Rattle.std.specs.List.{list_any}
use Rattle.task_ids.specs.declared.task_id.TaskId.{TaskId}
use Rattle.task_events.specs.declared.reply.Reply.{Reply}
use Rattle.task_events.specs.declared.reply.Reply.TheVariants.{Cancelled}
use Rattle.task_events.specs.declared.event.Event.{Event}
use Rattle.task_events.specs.declared.event.Event.TheVariants.{Root, Put, Pass, Refuse, End}
use Rattle.task_events.specs.Same.{same_task, same_pair}
pub use Rattle.task_events.specs.NoCounts.{no_counts}

-- a task is live from its root or put event up to its refusal or end
abbrev pub is_live : TaskId → List Event → Bool
is_live t [] = false
is_live t (Root c u ∷ h) = if same_task t u then true else is_live t h
is_live t (Put u p k ∷ h) = if same_task t u then true else is_live t h
is_live t (Refuse u c ∷ h) = if same_task t u then false else is_live t h
is_live t (End u r ∷ h) = if same_task t u then false else is_live t h
is_live t (_ ∷ h) = is_live t h

-- it has ended from its refusal or end on
abbrev pub has_ended : TaskId → List Event → Bool
has_ended t [] = false
has_ended t (Refuse u c ∷ h) = if same_task t u then true else has_ended t h
has_ended t (End u r ∷ h) = if same_task t u then true else has_ended t h
has_ended t (_ ∷ h) = has_ended t h

-- the live tasks, the youngest first
abbrev pub live_tasks : List Event → List TaskId
live_tasks [] = []
live_tasks (Root c t ∷ h) = t ∷ live_tasks h
live_tasks (Put t p k ∷ h) = t ∷ live_tasks h
live_tasks (Refuse t c ∷ h) = filter (λ u. not (same_task t u)) (live_tasks h)
live_tasks (End t r ∷ h) = filter (λ u. not (same_task t u)) (live_tasks h)
live_tasks (_ ∷ h) = live_tasks h

-- how many tasks are live on the node
abbrev pub live_on : ℕ → List Event → ℕ
live_on n [] = 0
live_on n (Root c t ∷ h) = cond (n == t.node) 1 0 + live_on n h
live_on n (Put t p k ∷ h) = cond (n == t.node) 1 0 + live_on n h
live_on n (Refuse t c ∷ h) = live_on n h - cond (n == t.node) 1 0
live_on n (End t r ∷ h) = live_on n h - cond (n == t.node) 1 0
live_on n (_ ∷ h) = live_on n h

-- the number that the node gave last, 0 before the first
abbrev pub last_number : ℕ → List Event → ℕ
last_number n [] = 0
last_number n (Root c t ∷ h) = if n == t.node then t.number else last_number n h
last_number n (Put t p k ∷ h) = if n == t.node then t.number else last_number n h
last_number n (_ ∷ h) = last_number n h

-- put, and neither passed nor refused
abbrev pub is_new : TaskId → List Event → Bool
is_new t [] = false
is_new t (Put u p k ∷ h) = if same_task t u then true else is_new t h
is_new t (Pass u ∷ h) = if same_task t u then false else is_new t h
is_new t (Refuse u c ∷ h) = if same_task t u then false else is_new t h
is_new t (_ ∷ h) = is_new t h

-- a child has passed from its pass event on
abbrev pub has_passed : TaskId → List Event → Bool
has_passed t [] = false
has_passed t (Pass u ∷ h) = if same_task t u then true else has_passed t h
has_passed t (_ ∷ h) = has_passed t h

-- the number of the cancellation with which the task was refused
abbrev pub refusal_of : TaskId → List Event → Option ℕ
refusal_of t [] = None
refusal_of t (Refuse u c ∷ h) = if same_task t u then Some c else refusal_of t h
refusal_of t (_ ∷ h) = refusal_of t h

-- the task that asked for this one; a root has none
abbrev pub parent_of : TaskId → List Event → Option TaskId
parent_of t [] = None
parent_of t (Put u p k ∷ h) = if same_task t u then Some p else parent_of t h
parent_of t (_ ∷ h) = parent_of t h

-- the ask of the parent for which the task was put, 0 where it has no parent
abbrev pub ask_of : TaskId → List Event → ℕ
ask_of t [] = 0
ask_of t (Put u p k ∷ h) = if same_task t u then k else ask_of t h
ask_of t (_ ∷ h) = ask_of t h

-- the task that was put for an ask
abbrev pub child_of : TaskId → ℕ → List Event → Option TaskId
child_of p k [] = None
child_of p k (Put u q j ∷ h) = if same_pair p k q j then Some u else child_of p k h
child_of p k (_ ∷ h) = child_of p k h

-- the parent, its parent, and so on up to the root
abbrev pub ancestors : TaskId → List Event → List TaskId
ancestors t [] = []
ancestors t (Put u p k ∷ h) = if same_task t u then p ∷ ancestors p h else ancestors t h
ancestors t (_ ∷ h) = ancestors t h

-- the task t is a child of a, or of a child of a, and so on
abbrev pub descends : TaskId → TaskId → List Event → Bool
descends a t h = list_any (same_task a) (ancestors t h)

-- 1 where there is a task and it passes the test, else 0
abbrev pub number_that : (TaskId → Bool) → Option TaskId → ℕ
number_that test None = 0
number_that test (Some t) = cond (test t) 1 0

-- 1 where a task was put for the ask and is live, else 0
abbrev pub live_child : TaskId → ℕ → List Event → ℕ
live_child p k h = number_that (λ t. is_live t h) (child_of p k h)

-- what the task answered when it ended
abbrev pub reply_of : TaskId → List Event → Option Reply
reply_of t [] = None
reply_of t (Refuse u c ∷ h) = if same_task t u then Some (Cancelled u c no_counts) else reply_of t h
reply_of t (End u r ∷ h) = if same_task t u then Some r else reply_of t h
reply_of t (_ ∷ h) = reply_of t h
