-- Which cancels wait for their answers, and what a cancel makes happen.
use Rattle.std.specs.Prelude.{◌≡◌, ℕ, ◌++◌, Bool, true, false, ◌&&◌, ◌||◌, not, ◌==◌, List, [], ◌∷◌, Option, Some, None, is_some, map, filter, reverse, length, unwrap_or, if◌then◌else◌}
use Rattle.std.specs.List.{list_all}
use Rattle.task_ids.specs.declared.task_id.TaskId.{TaskId}
use Rattle.task_ids.specs.declared.cluster.Cluster.{Cluster}
use Rattle.task_events.specs.declared.event.Event.{Event}
use Rattle.task_events.specs.declared.event.Event.TheVariants.{Cancel, NotFound, Mark, Acked, Refuse, End, AnswerPlaced, AnswerDone}
use Rattle.task_events.specs.Same.{same_task}
use Rattle.task_events.specs.Tasks.{is_live, has_ended}
use Rattle.task_events.specs.Bans.{mark_of, bans_are_placed}
use Rattle.task_events.specs.Cancels.{is_named, waits, is_answered_placed, is_answered_done}
use Rattle.tasks_api.specs.declared.filter.Filter.{Filter}
use Rattle.tasks_api.specs.Lists.{shown}
use Rattle.script_lang.specs.declared.command.CancelTarget.{CancelTarget}
use Rattle.script_lang.specs.declared.command.CancelTarget.TheVariants.{Task, Matching, Command as Of}
use Rattle.script_lang.specs.declared.command.Script.{Script}
use Rattle.command_roots.specs.Roots.{root_of, rows_of}

-- the cancels that named a task, in the order of their commands
abbrev pub named_by : TaskId → List Event → List ℕ
named_by t [] = []
named_by t (Cancel c u wait ∷ h) = if same_task t u then named_by t h ++ c ∷ [] else named_by t h
named_by t (_ ∷ h) = named_by t h

-- the tasks that a cancel named, in the order in which it named them
abbrev pub tasks_named : ℕ → List Event → List TaskId
tasks_named c [] = []
tasks_named c (Cancel d t wait ∷ h) = if c == d then tasks_named c h ++ t ∷ [] else tasks_named c h
tasks_named c (_ ∷ h) = tasks_named c h

abbrev pub is_answered : ℕ → List Event → Bool
is_answered c h = is_answered_placed c h || is_answered_done c h

-- the cancel is to be answered only once its tasks have ended
abbrev pub waits_for_end : ℕ → List Event → Bool
waits_for_end c h = unwrap_or (waits c h) false

-- The cancel has nothing more to wait for at a task: its bans are placed, and where the cancel waits for the end it has ended.
abbrev pub is_through : List Event → ℕ → TaskId → Bool
is_through h c t = bans_are_placed t h && (not (waits_for_end c h) || has_ended t h)

-- the cancels that wait for a task
abbrev pub waiting_for : TaskId → List Event → List ℕ
waiting_for t h = filter (λ c. not (is_through h c t)) (named_by t h)

-- at how many of the tasks that it named a cancel waits
abbrev pub left_of : ℕ → List Event → ℕ
left_of c h = length (filter (λ t. not (is_through h c t)) (tasks_named c h))

-- It is to be answered now: it has nothing more to wait for at any task that it named.
abbrev pub is_due : List Event → ℕ → Bool
is_due h c = list_all (is_through h c) (tasks_named c h)

-- the answer to a cancel, by whether it waits for the end
abbrev pub answer_by : Bool → ℕ → Event
answer_by waits_end c = if waits_end then AnswerDone c else AnswerPlaced c

abbrev pub answer_to : List Event → ℕ → Event
answer_to h c = answer_by (waits_for_end c h) c

-- the cancels of a task that are due and not answered, in the order of their commands
abbrev pub due_for : TaskId → List Event → List ℕ
due_for t h = filter (λ c. is_due h c && not (is_answered c h)) (named_by t h)

-- the past after the answers to them
abbrev pub with_answers : TaskId → List Event → List Event
with_answers t h = reverse (map (answer_to h) (due_for t h)) ++ h

-- An event and the answers that come due with it. They are due to cancels of the task that ends, or of which a ban is acknowledged.
abbrev pub with_due : Event → List Event → List Event
with_due (Refuse t c) h = with_answers t (Refuse t c ∷ h)
with_due (End t reply) h = with_answers t (End t reply ∷ h)
with_due (Acked p n) h = with_answers p (Acked p n ∷ h)
with_due e h = e ∷ h

-- ---- a cancel command

-- the live task is named, and marked unless it is marked already
abbrev pub with_cancel : ℕ → TaskId → Bool → List Event → List Event
with_cancel c t wait h = if is_some (mark_of t h) then Cancel c t wait ∷ h else Mark t c ∷ Cancel c t wait ∷ h

-- one task after the other is
abbrev pub with_cancels : ℕ → Bool → List TaskId → List Event → List Event
with_cancels c wait [] h = h
with_cancels c wait (t ∷ ts) h = with_cancels c wait ts (with_cancel c t wait h)

-- A cancel that has named all its tasks is answered at once where it is due.
abbrev pub with_answer : ℕ → Bool → List Event → List Event
with_answer c wait h = if is_due h c then answer_by wait c ∷ h else h

abbrev pub after_naming : ℕ → Bool → List TaskId → List Event → List Event
after_naming c wait ts h = with_answer c wait (with_cancels c wait ts h)

-- the task that a cancel is about, where it is about one: that of its id, or the one that its command started
abbrev pub target_of : CancelTarget → List Event → Option TaskId
target_of (Task t) h = Some t
target_of (Of k) h = root_of k h
target_of (Matching wanted) h = None

-- the past after a cancel of a task, which finds none where it is not live
abbrev pub after_cancel_of : ℕ → Bool → Option TaskId → List Event → List Event
after_cancel_of c wait None h = NotFound c ∷ h
after_cancel_of c wait (Some t) h = if is_live t h then after_naming c wait (t ∷ []) h else NotFound c ∷ h

-- the live tasks that a filter lets through, by ascending id
abbrev pub targets : Cluster → Script → Filter → List Event → List TaskId
targets cluster script wanted h = map (λ row. row.id) (shown wanted (rows_of cluster script h))

-- The past after a cancel: of each task that its filter lets through, or of one task.
abbrev pub after_cancel : Cluster → Script → ℕ → CancelTarget → Bool → List Event → List Event
after_cancel cluster script c (Matching wanted) wait h = after_naming c wait (targets cluster script wanted h) h
after_cancel cluster script c (Task t) wait h = after_cancel_of c wait (Some t) h
after_cancel cluster script c (Of k) wait h = after_cancel_of c wait (root_of k h) h

-- Every cancel that named a task is answered.
abbrev pub AllAnswered : List Event → Type 0
AllAnswered h = (c : ℕ) (t : TaskId) → is_named c t h ≡ true → is_answered c h ≡ true
