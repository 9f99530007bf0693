-- Commands, the tasks that a cancellation names, and its answer.
use Rattle.std.specs.Prelude.{ℕ, Bool, true, false, ◌==◌, List, [], ◌∷◌, Option, Some, None, if◌then◌else◌}
use Rattle.std.specs.List.{list_any}
use Rattle.task_ids.specs.declared.task_id.TaskId.{TaskId}
use Rattle.task_events.specs.declared.event.Event.{Event}
use Rattle.task_events.specs.declared.event.Event.TheVariants.{Begin, Root, RootRejected, Cancel, NotFound, Work, Write, AnswerPlaced, AnswerDone}
use Rattle.task_events.specs.Same.{same_pair}

-- the command that began last, 0 before the first
abbrev pub last_command : List Event → ℕ
last_command [] = 0
last_command (Begin k ∷ h) = k
last_command (_ ∷ h) = last_command h

-- the command of which nothing but its beginning has happened
abbrev pub beginning : List Event → Option ℕ
beginning (Begin k ∷ h) = Some k
beginning _ = None

-- the task whose turn of work is going on: only documents of that turn have been written since
abbrev pub turn_of : List Event → Option TaskId
turn_of (Work t ∷ h) = Some t
turn_of (Write index shard outcome id ∷ h) = turn_of h
turn_of _ = None

-- the command has done something: started a task or found no slot, named a task or found none, or been answered
abbrev pub has_acted : ℕ → List Event → Bool
has_acted k [] = false
has_acted k (Root c t ∷ h) = if k == c then true else has_acted k h
has_acted k (RootRejected c n ∷ h) = if k == c then true else has_acted k h
has_acted k (NotFound c ∷ h) = if k == c then true else has_acted k h
has_acted k (Cancel c t wait ∷ h) = if k == c then true else has_acted k h
has_acted k (AnswerPlaced c ∷ h) = if k == c then true else has_acted k h
has_acted k (AnswerDone c ∷ h) = if k == c then true else has_acted k h
has_acted k (_ ∷ h) = has_acted k h

-- the cancellation names the task
abbrev pub is_named : ℕ → TaskId → List Event → Bool
is_named c t [] = false
is_named c t (Cancel d u w ∷ h) = if same_pair t c u d then true else is_named c t h
is_named c t (_ ∷ h) = is_named c t h

-- whether the cancellation waits, as far as it has named a task
abbrev pub waits : ℕ → List Event → Option Bool
waits c [] = None
waits c (Cancel d u w ∷ h) = if c == d then Some w else waits c h
waits c (_ ∷ h) = waits c h

-- the cancellation found no task
abbrev pub found_none : ℕ → List Event → Bool
found_none c [] = false
found_none c (NotFound d ∷ h) = if c == d then true else found_none c h
found_none c (_ ∷ h) = found_none c h

-- the cancellation is answered because its bans are placed
abbrev pub is_answered_placed : ℕ → List Event → Bool
is_answered_placed c [] = false
is_answered_placed c (AnswerPlaced d ∷ h) = if c == d then true else is_answered_placed c h
is_answered_placed c (_ ∷ h) = is_answered_placed c h

-- the cancellation is answered because its tasks have ended too
abbrev pub is_answered_done : ℕ → List Event → Bool
is_answered_done c [] = false
is_answered_done c (AnswerDone d ∷ h) = if c == d then true else is_answered_done c h
is_answered_done c (_ ∷ h) = is_answered_done c h

-- the cancellation named the task or one of its ancestors
abbrev pub names_one_of : ℕ → List TaskId → List Event → Bool
names_one_of c ts h = list_any (λ t. is_named c t h) ts
