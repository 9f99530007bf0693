-- Which answers fit, and from which node a task is untracked by one.
use Rattle.std.specs.Prelude.{◌≡◌, ℕ, ◌-◌, true, List, [], ◌∷◌, slice_get, slice_index_or, Option, None, Some, if◌then◌else◌}
use Rattle.task_ids.specs.declared.task_id.TaskId.{TaskId}
use Rattle.child_track.specs.Token.{ReceiptParts}
use Rattle.child_track.specs.Track.{Track, Answers, with_answer, is_awaited, unanswered}
use Rattle.task_events.specs.declared.answered.AnsweredRequest.{AnsweredRequest}
use Rattle.task_events.specs.declared.reply.Reply.{Reply}
use Rattle.task_ids.specs.declared.doc.Doc.{Doc}
use Rattle.task_events.specs.declared.step.Do.TheVariants.{Turn}
use Rattle.task_work.specs.Awaiting.{IsAskedBy}
use Rattle.task_work.specs.Works.{work_takes, can_ask, next_of}
use Rattle.node_parts.specs.Running.{next_number}
use Rattle.node_boards.specs.Calls.{DataCall}
use Rattle.node_boards.specs.Calls as call
use Rattle.node_link.specs.declared.body.Place.{Place}
use Rattle.task_table.specs.TicketParts.{TicketParts}
use Rattle.live_tasks.specs.declared.entry.Entry.{Entry}
use Rattle.live_tasks.specs.declared.live.LiveTasks.{LiveTasks}
use Rattle.live_tasks.specs.Live.{entry_at}

-- it answers an unanswered ask of the live task, with what the ask's request can have
abbrev pub IsAnswer : ReceiptParts → Reply → Option Entry → Type 0
IsAnswer receipt reply None = ⊥
IsAnswer receipt reply (Some e) = Answers receipt e.running.track × (work_takes e.running.work receipt.ask reply ≡ true)

-- and it is of the place that was asked for
abbrev pub IsOfPlace : ReceiptParts → Place → Option Entry → Type 0
IsOfPlace receipt place None = ⊥
IsOfPlace receipt place (Some e) = slice_get e.asked (receipt.ask - 1) ≡ Some place

-- the live task that asked
abbrev pub asker : LiveTasks → Option TaskId → Option Entry
asker live None = None
asker live (Some parent) = entry_at live parent.number

-- and what it tells that it answers looks as what was asked for
abbrev pub IsToAsk : ReceiptParts → AnsweredRequest → Option Entry → Type 0
IsToAsk receipt request None = ⊥
IsToAsk receipt request (Some e) = IsAskedBy e.running.work receipt.ask request

-- the answer of the child at a place to a request is one that the live task which asked waits for
abbrev pub Fits : LiveTasks → ReceiptParts → Place → AnsweredRequest → Reply → Type 0
Fits live receipt place request reply = IsAnswer receipt reply (asker live receipt.parent) × IsOfPlace receipt place (asker live receipt.parent) × IsToAsk receipt request (asker live receipt.parent)

-- a node, unless the task awaits an answer from there
abbrev pub unless_awaited : Track → Option ℕ → Option ℕ
unless_awaited track None = None
unless_awaited track (Some node) = if is_awaited track node then None else Some node

-- the node of this ask, where no unanswered ask goes there any more once this one is answered
abbrev pub left_by : Track → ℕ → Option ℕ
left_by track ask = unless_awaited (with_answer track ask) (slice_index_or track.asks (ask - 1) None)

-- a task is untracked from a node, where there is one
abbrev pub untracking : TicketParts → Option ℕ → List DataCall
untracking ticket None = []
untracking ticket (Some node) = call.untrack ticket node ∷ []

-- the task may ask for the child that comes next
abbrev pub CanAsk : Option Entry → Type 0
CanAsk None = ⊥
CanAsk (Some e) = (e.running.track.closed ≡ None) × (can_ask e.running.work (next_number e.running) ≡ true)

-- its work takes a turn next, over a shard with these writes
abbrev pub TakesTurn : List Doc → Option Entry → Type 0
TakesTurn writes None = ⊥
TakesTurn writes (Some e) = (now : ℕ) × (next_of e.running.work writes now ≡ Turn)

-- a live task of which no ask is unanswered
abbrev pub IsAnsweredFully : Option Entry → Type 0
IsAnsweredFully None = ⊥
IsAnsweredFully (Some e) = unanswered e.running.track ≡ 0
