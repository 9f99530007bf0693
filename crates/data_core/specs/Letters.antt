-- What the letters of a core tell.
use Rattle.std.specs.Prelude.{◌≡◌, ℕ, is_some, Option, None, Some}
use Rattle.task_ids.specs.declared.task_id.TaskId.{TaskId}
use Rattle.task_ids.specs.declared.task_info.TaskInfo.{TaskInfo}
use Rattle.child_track.specs.Token.{Token, ReceiptParts}
use Rattle.task_events.specs.Answered.{as_answered}
use Rattle.task_events.specs.declared.context.Context.{Context}
use Rattle.task_events.specs.declared.reply.Reply.{Reply}
use Rattle.task_events.specs.declared.reply.Reply.TheVariants as replies
use Rattle.node_link.specs.Lawful.{IsCancelOfRun, IsLawfulReply, IsPlace, is_page}
use Rattle.node_link.specs.declared.body.Asked.{Asked}
use Rattle.node_link.specs.declared.body.Start.{Start}
use Rattle.node_link.specs.declared.body.Answered.{Answered}
use Rattle.node_link.specs.declared.body.RootAnswered.{RootAnswered}
use Rattle.node_link.specs.declared.page.Page.{Page}
use Rattle.live_tasks.specs.declared.entry.Entry.{Entry}
use Rattle.live_tasks.specs.declared.entry.EndedTask.{EndedTask}
use Rattle.live_tasks.specs.declared.registering.Registered.{Registered}
use Rattle.live_tasks.specs.declared.registering.Registered.TheVariants as outcomes
use Rattle.data_parts.specs.declared.ending.Ending.{Ending}
use Rattle.data_parts.specs.declared.ending.Ending.TheVariants.{Refused, Marked, Finished}

-- the receipt of a request that was rejected
abbrev pub rejection : Token → ReceiptParts
rejection token = record { task = None; parent = Some token.parent; ask = token.ask }

-- a request for a child was rejected on a node
abbrev pub rejected : ℕ → Asked → Answered
rejected node asked = record { place = asked.place; receipt = rejection asked.token; request = as_answered asked.request; reply = replies.Rejected node; page = None }

-- a root was rejected on a node
abbrev pub root_rejected : ℕ → Start → RootAnswered
root_rejected node start = record { place = start.place; request = as_answered start.request; reply = replies.Rejected node; page = None }

-- the page that begins where a context stands
abbrev pub page_at : Context → Page
page_at context = record { ask = context.ask; shards = context.shards; after = context.after }

-- the row of a live task whose mark is this one
abbrev pub row_of : Entry → Option ℕ → TaskInfo
row_of e mark = record {
  id = e.running.ticket.id;
  action = e.info.action;
  description = e.info.description;
  start_ms = e.info.start_ms;
  parent = e.info.parent;
  headers = e.info.headers;
  cancelled = mark;
}

-- the task that was registered, where one was
abbrev pub registered_id : Registered → Option TaskId
registered_id (outcomes.Task id) = Some id
registered_id (outcomes.Full token) = None

-- what a task ends with is of the run
abbrev pub IsLawfulEnding : (ℕ → Type 0) → Ending → Type 0
IsLawfulEnding allowed (Refused cancel) = IsCancelOfRun allowed cancel
IsLawfulEnding allowed (Marked cancel) = IsCancelOfRun allowed cancel
IsLawfulEnding allowed (Finished reply) = IsLawfulReply allowed reply

-- What a task leaves with this reply makes a lawful answer: only a scroll tells its page.
pub record IsLawfulEnd (allowed : ℕ → Type 0) (left : EndedTask) (reply : Reply) : Type 0 where
  pub place : IsPlace left.place
  pub page : is_some left.page ≡ is_page left.request
  pub lawful : IsLawfulReply allowed reply
