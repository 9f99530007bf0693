-- How many messages of each kind are in flight, counted event by event. That the counts are those of the list of
-- messages is shown in `InFlight`.
use Rattle.std.proofs.Common.{ℕ, ◌+◌, ◌-◌, Bool, false, cond, not, ◌&&◌, List, [], ◌∷◌, Option, Some, None}
use Rattle.task_ids.specs.declared.task_id.TaskId.{TaskId}
use Rattle.task_events.specs.declared.event.Event.{Event}
use Rattle.task_events.specs.declared.event.Event.TheVariants.{Ask, Put, Reject, Refuse, Mark, BanPut, Listed, Acked, BanGone, Answered, End}
use Rattle.task_events.specs.Same.{same_task, same_pair}
use Rattle.task_events.specs.Tasks.{parent_of, ask_of}
use Rattle.task_events.specs.Asks.{unanswered_nodes}
use Rattle.task_events.specs.Bans.{banned_nodes, unbans_are_sent, ack_is_due}
use Rattle.task_laws.proofs.Numbers.{number}
use Rattle.std.specs.Prelude.{◌==◌}

-- whether the task with this parent and this ask was put for the ask k of p
abbrev pub is_for : TaskId → ℕ → Option TaskId → ℕ → Bool
is_for p k None j = false
is_for p k (Some q) j = same_pair p k q j

-- the task t was put for the ask k of p
abbrev pub is_child_of : TaskId → ℕ → TaskId → List Event → Bool
is_child_of p k t h = is_for p k (parent_of t h) (ask_of t h)

-- requests of the ask k of p
abbrev pub requests : TaskId → ℕ → List Event → ℕ
requests p k [] = 0
requests p k (Ask q j n w ∷ h) = requests p k h + cond (same_pair p k q j) 1 0
requests p k (Put t q j ∷ h) = requests p k h - cond (same_pair p k q j) 1 0
requests p k (Reject n q j ∷ h) = requests p k h - cond (same_pair p k q j) 1 0
requests p k (_ ∷ h) = requests p k h

-- answers to the ask k of p
abbrev pub answers : TaskId → ℕ → List Event → ℕ
answers p k [] = 0
answers p k (Reject n q j ∷ h) = answers p k h + cond (same_pair p k q j) 1 0
answers p k (Refuse t c ∷ h) = answers p k h + cond (is_child_of p k t h) 1 0
answers p k (End t r ∷ h) = answers p k h + cond (is_child_of p k t h) 1 0
answers p k (Answered q j ∷ h) = answers p k h - cond (same_pair p k q j) 1 0
answers p k (_ ∷ h) = answers p k h

-- bans of p to n
abbrev pub bans : ℕ → TaskId → List Event → ℕ
bans n p [] = 0
bans n p (Mark q c ∷ h) = bans n p h + cond (same_task p q) (number (λ m. n == m) (unanswered_nodes q h)) 0
bans n p (BanPut m q c ∷ h) = bans n p h - cond (same_pair p n q m) 1 0
bans n p (_ ∷ h) = bans n p h

-- 1 where the acknowledgement of the ban of p on n became due between an earlier moment and a later one, else 0
abbrev pub falls_due : ℕ → TaskId → List Event → List Event → ℕ
falls_due n p earlier later = cond (ack_is_due n p later && not (ack_is_due n p earlier)) 1 0

-- the same where the task with this parent and this node stands under that ban
abbrev pub due_over : ℕ → TaskId → Option TaskId → ℕ → List Event → List Event → ℕ
due_over n p None m earlier later = 0
due_over n p (Some q) m earlier later = cond (same_pair p n q m) (falls_due m q earlier later) 0

-- acknowledgements of the ban of p from n
abbrev pub acks : ℕ → TaskId → List Event → ℕ
acks n p [] = 0
acks n p (Refuse t c ∷ h) = acks n p h + due_over n p (parent_of t h) t.node h (Refuse t c ∷ h)
acks n p (Listed m q ∷ h) = acks n p h + due_over n p (Some q) m h (Listed m q ∷ h)
acks n p (Acked q m ∷ h) = acks n p h - cond (same_pair p n q m) 1 0 + due_over n p (parent_of q h) q.node h (Acked q m ∷ h)
acks n p (End t r ∷ h) = acks n p h + due_over n p (parent_of t h) t.node h (End t r ∷ h)
acks n p (_ ∷ h) = acks n p h

-- 1 for a banned node of p, else 0
abbrev pub banned : ℕ → TaskId → List Event → ℕ
banned n p h = number (λ m. n == m) (banned_nodes p h)

-- the unbans of p to n that are sent where p ends or its last ban is acknowledged
abbrev pub freed : ℕ → TaskId → List Event → ℕ
freed n p h = cond (unbans_are_sent p h) (banned n p h) 0

-- unbans of p to n
abbrev pub unbans : ℕ → TaskId → List Event → ℕ
unbans n p [] = 0
unbans n p (Refuse q c ∷ h) = unbans n p h + cond (same_task p q) (freed n q (Refuse q c ∷ h)) 0
unbans n p (End q r ∷ h) = unbans n p h + cond (same_task p q) (freed n q (End q r ∷ h)) 0
unbans n p (Acked q m ∷ h) = unbans n p h + cond (same_task p q) (freed n q (Acked q m ∷ h)) 0
unbans n p (BanGone m q ∷ h) = unbans n p h - cond (same_pair p n q m) 1 0
unbans n p (_ ∷ h) = unbans n p h
