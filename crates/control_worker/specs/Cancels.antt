-- What a control worker does with a cancel, an acknowledgement and the end of a task.
use Rattle.std.specs.Prelude.{◌≡◌, ℕ, Bool, true, false, ◌==◌, ◌+◌, ◌-◌, ◌^◌, min, [], ◌∷◌, ◌++◌, map, Option, Some, None}
use Rattle.std.specs.List.{list_any}
use Rattle.task_ids.specs.declared.task_id.TaskId.{TaskId}
use Rattle.child_track.specs.declared.nodes.NodeSet.{NodeSet}
use Rattle.child_track.specs.NodeSet.{nodes_of}
use Rattle.child_track.specs.Token.{ReceiptParts}
use Rattle.task_table.specs.declared.ended.MarkAnswer.TheVariants.{Marked, Already, NotFound}
use Rattle.cancel_core.specs.declared.act.Waiter.{Waiter}
use Rattle.cancel_core.specs.Cancellation.{Cancellation, with_ack, with_receipt, rest_of}
use Rattle.cancel_core.specs.Cancellations.{Cancellations, entry_of, with_entry}
use Rattle.cancel_core.specs.Acts.{ban_acts, first_acts, begun, join_acts, joined_by, due_acts}
use Rattle.cancel_core.specs.Listings.{is_stopped, left_by, leaving_acts}
use Rattle.node_boards.specs.Calls.{ControlCall}
use Rattle.node_boards.specs.Calls as call
use Rattle.control_worker.specs.declared.act.ControlAct.TheVariants as act
use Rattle.control_worker.specs.View.{View, is_here, is_under_way, is_open}
use Rattle.control_worker.specs.Steps.{Step, Nothing, Then, Either, Only, Where, Asks, Gives}

-- the cancellations are these now
abbrev pub with_cancels : View → Cancellations → View
with_cancels v cancels = record v { cancels = cancels }

-- one task more was marked; the count stays at the greatest number of 64 bits
abbrev pub with_mark : View → View
with_mark v = record v { marks = min (v.marks + 1) (2 ^ 64 - 1) }

-- The cancellation of a task that was just marked begins: a ban goes to each node of its mask
unfoldable pub Begins : TaskId → ℕ → Option Waiter → Step
Begins task cancel waiter v calls acts w = (nodes : NodeSet)
    × (calls ≡ call.mask task.number nodes ∷ [])
    × (acts ≡ map act.Core (ban_acts task cancel (nodes_of nodes) ++ first_acts task cancel (nodes_of nodes) waiter))
    × (w ≡ with_mark (with_cancels v (with_entry v.cancels task (Some (begun cancel (nodes_of nodes) waiter)))))

-- a waiter joins the cancellation that is under way
unfoldable pub Joined : TaskId → Waiter → Step
Joined task waiter v calls acts w = (calls ≡ [])
    × (acts ≡ map act.Core (join_acts task (entry_of v.cancels task) waiter))
    × (w ≡ with_cancels v (with_entry v.cancels task (Some (joined_by (entry_of v.cancels task) waiter))))

-- unless there is none, or the task has ended
abbrev pub Joins : TaskId → Waiter → Step
Joins task waiter = Where (is_open task) (Joined task waiter) Nothing

-- a task that was just marked is cancelled
abbrev pub Starts : TaskId → Waiter → Step
Starts task waiter = Where (is_under_way task) (Joins task waiter) (Begins task waiter.cancel (Some waiter))

-- a task of this node is found: it is marked now, or had a mark
abbrev pub Finds : TaskId → Waiter → Step
Finds task waiter = Only (is_here task) (Either
    (Then (Asks (call.mark task.number waiter.cancel Marked)) (Starts task waiter))
    (λ v calls acts w. (mark : ℕ) × Then (Asks (call.mark task.number waiter.cancel (Already mark))) (Joins task waiter) v calls acts w))

-- A task is not found: no live task of this node has its number, or it is a task of another node, for which the board is not asked
abbrev pub Misses : TaskId → Waiter → Step
Misses task waiter = Where (is_here task) (Asks (call.mark task.number waiter.cancel NotFound)) Nothing

-- whether a task is found
abbrev pub Seeks : TaskId → Waiter → Bool → Step
Seeks task waiter true = Finds task waiter
Seeks task waiter false = Misses task waiter

-- a cancel by id
abbrev pub Cancels : TaskId → Waiter → Step
Cancels task waiter = Either (Seeks task waiter true) (Then (Seeks task waiter false) (Gives (act.NotFound waiter.cancel)))

-- the node is awaited for the parent
abbrev pub is_awaited : TaskId → ℕ → View → Bool
is_awaited parent from v = list_any (λ n. n == from) (entry_of v.cancels parent).awaited

-- the task's cancellation is another now, and a listing that waited for it may wait no longer
unfoldable pub Moves : TaskId → Cancellation → Bool → Step
Moves task c stopped v calls acts w = (calls ≡ [])
    × (acts ≡ map act.Core (due_acts task c ++ leaving_acts v.cancels task stopped))
    × (w ≡ with_cancels v (left_by (with_entry v.cancels task (rest_of c)) task stopped))

-- an awaited node has placed the parent's ban
abbrev pub Acked : TaskId → ℕ → Step
Acked parent from v = let c = with_ack (entry_of v.cancels parent) from in Moves parent c (is_stopped c) v

-- what else is passed over
abbrev pub Acks : TaskId → ℕ → Step
Acks parent from = Where (is_awaited parent from) (Acked parent from) Nothing

-- a task with a cancellation under way has ended
abbrev pub Ended : TaskId → ReceiptParts → Step
Ended task receipt v = Moves task (with_receipt (entry_of v.cancels task) receipt) true v

-- what else is passed over
abbrev pub Ends : TaskId → ReceiptParts → Step
Ends task receipt = Where (is_open task) (Ended task receipt) Nothing

-- a receipt without a task is that of a rejected request
abbrev pub EndsOf : Option TaskId → ReceiptParts → Step
EndsOf None receipt = Nothing
EndsOf (Some task) receipt = Ends task receipt
