-- What the root of a command is asked to do, and what its request carries.
use Rattle.std.specs.Prelude.{ℕ, zero, suc, ◌==◌, List, [], ◌∷◌, Option, Some, None, is_some, option_map, option_and_then, slice_get, Result, Ok, Err, if◌then◌else◌}
use Rattle.std.specs.Result.{result_ok}
use Rattle.query_parse.specs.declared.fault.BodyError.{BodyError}
use Rattle.query_match.specs.declared.body.SearchBody.{SearchBody}
use Rattle.query_parse.specs.Bodies.{body_at}
use Rattle.query_parse.specs.Reindexes.{reindex_at}
use Rattle.task_ids.specs.declared.cluster.Cluster.{Cluster}
use Rattle.task_ids.specs.declared.task_id.TaskId.{TaskId}
use Rattle.task_ids.specs.declared.task_info.Headers.{Headers}
use Rattle.task_ids.specs.declared.task_info.TaskInfo.{TaskInfo}
use Rattle.task_events.specs.declared.context.Context.{Context}
use Rattle.task_events.specs.declared.event.Event.{Event}
use Rattle.task_events.specs.declared.event.Event.TheVariants.{Root}
use Rattle.task_events.specs.declared.request.ReindexAsk.{ReindexAsk}
use Rattle.task_events.specs.declared.request.SearchAsk.{SearchAsk}
use Rattle.task_events.specs.declared.request.Request.{Request}
use Rattle.task_events.specs.declared.request.Request.TheVariants as asks
use Rattle.task_events.specs.Clock.{clock}
use Rattle.task_events.specs.Contexts.{context_at}
use Rattle.task_events.specs.Requests.{Scripted}
use Rattle.task_events.specs.TaskRows.{live_rows}
use Rattle.scroll_table.specs.declared.context.PageError.{PageError}
use Rattle.scroll_table.specs.declared.context.PageError.TheVariants.{Missing}
use Rattle.scroll_table.specs.Contexts.{answer_for}
use Rattle.script_lang.specs.declared.command.Command.{Command}
use Rattle.script_lang.specs.declared.command.Command.TheVariants.{Search, Scroll, ClearScroll, Reindex}
use Rattle.script_lang.specs.declared.command.ContextTarget.{ContextTarget}
use Rattle.script_lang.specs.declared.command.ContextTarget.TheVariants as contexts
use Rattle.script_lang.specs.declared.command.Script.{Script}
use Rattle.command_roots.specs.Reindexes.{reindex_ask}

-- ---- the tasks and the contexts of earlier commands

-- the task that a command started
abbrev pub root_of : ℕ → List Event → Option TaskId
root_of k [] = None
root_of k (Root c t ∷ h) = if k == c then Some t else root_of k h
root_of k (_ ∷ h) = root_of k h

-- the context that a command is about, by the id of the search that opened it
abbrev pub context_named : ContextTarget → List Event → Option TaskId
context_named (contexts.Id id) h = Some id
context_named (contexts.Command k) h = root_of k h

-- ---- what a command asks

-- a search of all documents of an index that match, which opens a context where it has a keep-alive
abbrev pub search_ask : List ℕ → Option ℕ → SearchBody → SearchAsk
search_ask index scroll body = record { index = index; body = body; scroll = scroll; slice = None; owner = None }

abbrev pub body_or_none : Result SearchBody BodyError → Option SearchBody
body_or_none (Ok body) = Some body
body_or_none (Err fault) = None

-- a search with a keep-alive has a hit to show at least
abbrev pub least_size : Option ℕ → ℕ
least_size scroll = if is_some scroll then 1 else 0

-- the search of a command whose body has no fault
abbrev pub search_of : Command → Option SearchAsk
search_of (Search index node scroll body opaque_id) = option_map (search_ask index scroll) (body_or_none (body_at (is_some scroll) (least_size scroll) body))
search_of _ = None

-- the copy that a command asks for, where it is a reindex whose body has no fault
abbrev pub reindex_of : Command → Option ReindexAsk
reindex_of (Reindex node body slices rate opaque_id store) = option_and_then (λ read. reindex_ask read slices rate) (result_ok (reindex_at body))
reindex_of _ = None

-- what the root of a command is asked to do, by what happened before
abbrev pub request_in : Command → List Event → Option Request
request_in (Scroll context keep opaque_id) h = option_map (λ id. asks.Scroll (record { id = id; keep = keep; owner = None })) (context_named context h)
request_in (Reindex node body slices rate opaque_id store) h = option_map asks.Reindex (reindex_of (Reindex node body slices rate opaque_id store))
request_in command h = option_map asks.Search (search_of command)

-- the command of a number, from 1
abbrev pub command_at : Script → ℕ → Option Command
command_at script zero = None
command_at script (suc k) = slice_get script.commands k

abbrev pub root_request : Script → ℕ → List Event → Option Request
root_request script k h = option_and_then (λ command. request_in command h) (command_at script k)

-- the text by which a client knows what it started, if it gave one
abbrev pub opaque_id_in : Command → Option (List ℕ)
opaque_id_in (Search index node scroll body opaque_id) = opaque_id
opaque_id_in (Scroll context keep opaque_id) = opaque_id
opaque_id_in (Reindex node body slices rate opaque_id store) = opaque_id
opaque_id_in _ = None

-- what the request of a command's root carries
abbrev pub root_headers : Script → ℕ → Headers
root_headers script k = record { opaque_id = option_and_then opaque_id_in (command_at script k) }

-- the context that a command clears
abbrev pub cleared_in : Command → List Event → Option TaskId
cleared_in (ClearScroll context) h = context_named context h
cleared_in _ h = None

abbrev pub cleared : Script → ℕ → List Event → Option TaskId
cleared script k h = option_and_then (λ command. cleared_in command h) (command_at script k)

-- what the commands of a script say
abbrev pub scripted : Script → Scripted
scripted script = record { root = root_request script; carried = root_headers script; clears = cleared script }

-- what a command is told that asks for a page of the context of an id, if there is one
abbrev pub page_at : Script → Option TaskId → List Event → Result Context PageError
page_at script None h = Err Missing
page_at script (Some id) h = answer_for None (clock h) (context_at (scripted script) id h)

-- what a command is told that asks for a page: the context, or why it gets none
abbrev pub page_answer : Script → ContextTarget → List Event → Result Context PageError
page_answer script target h = page_at script (context_named target h) h

-- the live tasks of a cluster as a task list shows them, by ascending id
abbrev pub rows_of : Cluster → Script → List Event → List TaskInfo
rows_of cluster script h = live_rows cluster.nodes (scripted script) h
