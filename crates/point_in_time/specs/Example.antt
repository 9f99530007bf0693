-- A point in time that is opened for a second, read once, and expires or is closed.
use Rattle.std.specs.Prelude.{List, [], ◌∷◌, ◌==◌, Some, None, if◌then◌else◌}
use Rattle.task_ids.specs.declared.task_id.TaskId.{TaskId}
use Rattle.task_ids.specs.declared.task_info.Headers.{Headers}
use Rattle.task_events.specs.declared.context.Context.{Context}
use Rattle.task_events.specs.declared.event.Event.{Event}
use Rattle.task_events.specs.declared.event.Event.TheVariants.{Begin, Root, Work, End, Tick}
use Rattle.task_events.specs.declared.reply.SearchReply.{SearchReply}
use Rattle.task_events.specs.declared.reply.Reply.TheVariants.{Search}
use Rattle.task_events.specs.declared.request.Request.TheVariants as asks
use Rattle.task_events.specs.declared.request.SearchAsk.{SearchAsk}
use Rattle.task_events.specs.Requests.{Scripted}
use Rattle.point_in_time.specs.Stands.{Pinning}

-- command 1 starts the task that opens it, command 4 a search that reads it
abbrev pub script : SearchAsk → Headers → Scripted
script ask headers = record { root = λ k h. Some (asks.Search ask); carried = λ k. headers; clears = λ k h. None }

-- command 1 opens it, command 4 reads it, and command 9 closes it
abbrev pub pinning : TaskId → Pinning
pinning t = record {
  opens = λ k. if k == 1 then Some 1000 else None;
  closes = λ k h. if k == 9 then Some t else None;
  reads = λ k h. if k == 4 then Some (record { pit = t; keep = None }) else None;
}

abbrev pub running : TaskId → List Event
running t = Work t ∷ Root 1 t ∷ Begin 1 ∷ []

-- command 2 settles
abbrev pub over : TaskId → SearchReply → List Event
over t reply = End t (Search reply) ∷ Begin 2 ∷ running t

-- command 3 lets the time go by but for one millisecond, and with command 5 that one goes by too, where no search reads it before
abbrev pub almost : TaskId → SearchReply → List Event
almost t reply = Tick 999 ∷ Begin 3 ∷ over t reply

abbrev pub unread : TaskId → SearchReply → List Event
unread t reply = Tick 1 ∷ Begin 5 ∷ almost t reply

-- command 4 reads it, and then the same time goes by again
abbrev pub read : TaskId → TaskId → SearchReply → List Event
read t search reply = Tick 999 ∷ Begin 5 ∷ Root 4 search ∷ Begin 4 ∷ almost t reply

abbrev pub late : TaskId → TaskId → SearchReply → List Event
late t search reply = Tick 1 ∷ Begin 6 ∷ read t search reply

abbrev pub closed : TaskId → SearchReply → List Event
closed t reply = Begin 9 ∷ over t reply

-- it as it was opened, and as the search has read it
abbrev pub fresh : TaskId → SearchAsk → SearchReply → Context
fresh t ask reply = record { id = t; ask = ask; shards = reply.shards; after = None; keep_ms = Some 1000; last_ms = 0; owner = None; busy = None }

abbrev pub used : TaskId → SearchAsk → SearchReply → Context
used t ask reply = record (fresh t ask reply) { last_ms = 999 }
