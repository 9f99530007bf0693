-- Listings that wait: a ban is acknowledged once each child that was listed has its own bans placed, or has ended.
use Rattle.std.specs.Prelude.{ℕ, suc, Bool, false, not, ◌&&◌, ◌||◌, nat_lt, ◌-◌, if◌then◌else◌, List, [], ◌∷◌, Option, None, Some, is_some, unwrap_or}
use Rattle.std.specs.FinMap.{FinMap, get, insert, remove}
use Rattle.task_ids.specs.declared.task_id.TaskId.{TaskId}
use Rattle.task_ids.specs.TaskIdOrder.{task_id_cmp}
use Rattle.cancel_core.specs.declared.act.Act.{Act}
use Rattle.cancel_core.specs.declared.act.Act.TheVariants.{SendAck}
use Rattle.cancel_core.specs.Cancellation.{Cancellation, is_placed}
use Rattle.cancel_core.specs.Cancellations.{Cancellations}

-- the bans of the task are placed, or it has ended
abbrev pub is_stopped : Cancellation → Bool
is_stopped c = is_placed c || is_some c.receipt

-- a listing waits for a child whose cancellation is under way and which has not stopped
abbrev pub is_awaited : Option Cancellation → Bool
is_awaited None = false
is_awaited (Some c) = not (is_stopped c)

-- it is noted once
abbrev pub is_to_note : FinMap task_id_cmp Cancellation → FinMap task_id_cmp TaskId → TaskId → Bool
is_to_note entries waits child = is_awaited (get entries child) && not (is_some (get waits child))

abbrev pub noted : FinMap task_id_cmp Cancellation → TaskId → List TaskId → FinMap task_id_cmp TaskId → FinMap task_id_cmp TaskId
noted entries parent [] waits = waits
noted entries parent (t ∷ ts) waits = noted entries parent ts (if is_to_note entries waits t then insert waits t parent else waits)

-- how many of the children are noted
abbrev pub number_noted : FinMap task_id_cmp Cancellation → TaskId → List TaskId → FinMap task_id_cmp TaskId → ℕ
number_noted entries parent [] waits = 0
number_noted entries parent (t ∷ ts) waits =
    if is_to_note entries waits t then suc (number_noted entries parent ts (insert waits t parent)) else number_noted entries parent ts waits

-- what was noted is taken back, the last first
abbrev pub taken_back : List TaskId → FinMap task_id_cmp TaskId → FinMap task_id_cmp TaskId
taken_back [] waits = waits
taken_back (t ∷ ts) waits = remove (taken_back ts waits) t

-- a listing of the parent's children waits for one of them
abbrev pub has_listing : Cancellations → TaskId → Bool
has_listing core parent = is_some (get core.listings parent)

-- for how many children the listing of a parent waits
abbrev pub awaited_by : Cancellations → TaskId → ℕ
awaited_by core parent = unwrap_or (get core.listings parent) 0

-- a number of children, and no entry for none
abbrev pub with_number : FinMap task_id_cmp ℕ → TaskId → ℕ → FinMap task_id_cmp ℕ
with_number listings parent n = if nat_lt 0 n then insert listings parent n else remove listings parent

-- the listing of a parent waits for these children
abbrev pub with_listing : Cancellations → TaskId → List TaskId → Cancellations
with_listing core parent children = record core {
  waits = noted core.entries parent children core.waits;
  listings = with_number core.listings parent (number_noted core.entries parent children core.waits);
}

-- where there is no child to wait for, the ban is acknowledged at once
abbrev pub listing_act : Cancellations → TaskId → List TaskId → Option Act
listing_act core parent children = if nat_lt 0 (number_noted core.entries parent children core.waits) then None else Some (SendAck parent.node parent)

-- a task leaves the listing that waits for it, if one does
abbrev pub without_wait : Cancellations → TaskId → Option TaskId → Cancellations
without_wait core task None = core
without_wait core task (Some parent) = record core {
  waits = remove core.waits task;
  listings = with_number core.listings parent (awaited_by core parent - 1);
}

-- and with the last one the ban is acknowledged
abbrev pub ack_acts : Cancellations → Option TaskId → List Act
ack_acts core None = []
ack_acts core (Some parent) = if nat_lt 1 (awaited_by core parent) then [] else SendAck parent.node parent ∷ []

-- a task that has stopped leaves
abbrev pub left_by : Cancellations → TaskId → Bool → Cancellations
left_by core task stopped = if stopped then without_wait core task (get core.waits task) else core

abbrev pub leaving_acts : Cancellations → TaskId → Bool → List Act
leaving_acts core task stopped = if stopped then ack_acts core (get core.waits task) else []
