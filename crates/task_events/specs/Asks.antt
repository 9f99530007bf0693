-- The asks of a task, and which of them are unanswered. A task numbers its asks from 1.
use Rattle.std.specs.Prelude.{ℕ, zero, suc, Bool, true, false, not, List, [], ◌∷◌, ◌++◌, Option, Some, None, option_and_then, filter, if◌then◌else◌, ◌==◌}
use Rattle.std.specs.List.{list_any}
use Rattle.task_ids.specs.declared.task_id.TaskId.{TaskId}
use Rattle.task_events.specs.declared.request.Request.{Request}
use Rattle.task_events.specs.declared.reply.Reply.{Reply}
use Rattle.task_events.specs.declared.reply.Reply.TheVariants.{Rejected}
use Rattle.task_events.specs.declared.event.Event.{Event}
use Rattle.task_events.specs.declared.event.Event.TheVariants.{Ask, Reject, Answered}
use Rattle.task_events.specs.Same.{same_task, same_pair}
use Rattle.task_events.specs.Tasks.{child_of, reply_of}

-- the number of the task's last ask, 0 before the first
abbrev pub last_ask : TaskId → List Event → ℕ
last_ask p [] = 0
last_ask p (Ask q k n r ∷ h) = if same_task p q then k else last_ask p h
last_ask p (_ ∷ h) = last_ask p h

-- the node to which an ask was sent
abbrev pub node_of_ask : TaskId → ℕ → List Event → Option ℕ
node_of_ask p k [] = None
node_of_ask p k (Ask q j n r ∷ h) = if same_pair p k q j then Some n else node_of_ask p k h
node_of_ask p k (_ ∷ h) = node_of_ask p k h

-- what was asked
abbrev pub request_of_ask : TaskId → ℕ → List Event → Option Request
request_of_ask p k [] = None
request_of_ask p k (Ask q j n r ∷ h) = if same_pair p k q j then Some r else request_of_ask p k h
request_of_ask p k (_ ∷ h) = request_of_ask p k h

-- an ask is unanswered up to the event in which its answer arrives
abbrev pub is_unanswered : TaskId → ℕ → List Event → Bool
is_unanswered p k [] = false
is_unanswered p k (Ask q j n r ∷ h) = if same_pair p k q j then true else is_unanswered p k h
is_unanswered p k (Answered q j ∷ h) = if same_pair p k q j then false else is_unanswered p k h
is_unanswered p k (_ ∷ h) = is_unanswered p k h

-- an ask and the node to which it was sent
pub record Pending : Type 0 where
  pub ask : ℕ
  pub node : ℕ

-- the task's unanswered asks with their nodes
abbrev pub unanswered : TaskId → List Event → List Pending
unanswered p [] = []
unanswered p (Ask q k n r ∷ h) = if same_task p q then record { ask = k; node = n } ∷ unanswered p h else unanswered p h
unanswered p (Answered q k ∷ h) = if same_task p q then filter (λ a. not (a.ask == k)) (unanswered p h) else unanswered p h
unanswered p (_ ∷ h) = unanswered p h

-- 1 to n, ascending
abbrev pub up_to : ℕ → List ℕ
up_to zero = []
up_to (suc n) = up_to n ++ suc n ∷ []

-- the nodes that a cluster may have, ascending
unfoldable pub all_nodes : List ℕ
all_nodes = up_to 15

-- the nodes of the task's unanswered asks, ascending, each once
abbrev pub unanswered_nodes : TaskId → List Event → List ℕ
unanswered_nodes p h = filter (λ n. list_any (λ a. a.node == n) (unanswered p h)) all_nodes

-- the node that rejected the ask
abbrev pub rejection_of : TaskId → ℕ → List Event → Option ℕ
rejection_of p k [] = None
rejection_of p k (Reject n q j ∷ h) = if same_pair p k q j then Some n else rejection_of p k h
rejection_of p k (_ ∷ h) = rejection_of p k h

-- the answer to the ask: a rejection, or else the reply of its child
abbrev pub answer_or : Option ℕ → Option Reply → Option Reply
answer_or None reply = reply
answer_or (Some n) reply = Some (Rejected n)

abbrev pub answer_of : TaskId → ℕ → List Event → Option Reply
answer_of p k h = answer_or (rejection_of p k h) (option_and_then (λ t. reply_of t h) (child_of p k h))
