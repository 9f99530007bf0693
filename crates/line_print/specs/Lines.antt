-- The lines of a script's output: one JSON object a command, compact, its keys in byte order, and a newline. Commands are numbered from 1.
use Rattle.std.specs.Prelude.{◌≡◌, ℕ, ◌+◌, ◌-◌, Bool, true, false, List, [], ◌∷◌, ◌++◌, length, map, filter_map, if◌then◌else◌, Option, Some, None, is_some, option_map, option_and_then, Result, Ok, Err, codes, decimal, slice_get, nat_le, unwrap_or, ⊤}
use Rattle.std.specs.List.{list_any}
use Rattle.serde_json.specs.Data.{Data, boolean, string, array}
use Rattle.serde_json.specs.View.{items_of}
use Rattle.serde_json.specs.Written.{compact_text}
use Rattle.query_parse.specs.declared.fault.BodyError.{BodyError}
use Rattle.query_parse.specs.declared.fault.ReindexError.{ReindexError}
use Rattle.query_parse.specs.declared.reindex_body.ReindexBody.{ReindexBody}
use Rattle.query_match.specs.declared.body.SearchBody.{SearchBody}
use Rattle.query_parse.specs.Bodies.{body_at}
use Rattle.query_parse.specs.Reindexes.{reindex_at}
use Rattle.task_ids.specs.declared.task_id.TaskId.{TaskId}
use Rattle.task_ids.specs.declared.cluster.Cluster.{Cluster}
use Rattle.task_ids.specs.declared.corpus.Corpus.{Corpus}
use Rattle.task_ids.specs.TaskId.{task_id_text}
use Rattle.script_lang.specs.declared.command.CancelTarget.{CancelTarget}
use Rattle.script_lang.specs.declared.command.CancelTarget.TheVariants.{Task, Matching, Command as Of}
use Rattle.script_lang.specs.declared.command.Command.{Command}
use Rattle.script_lang.specs.declared.command.Command.TheVariants as commands
use Rattle.script_lang.specs.declared.command.Script.{Script}
use Rattle.command_roots.specs.Known.{is_known}
use Rattle.std.specs.FinMap.{keys}
use Rattle.task_results.specs.Stands.{is_stored, results_at}
use Rattle.command_roots.specs.declared.results.TaskFound.{TaskFound}
use Rattle.command_roots.specs.declared.results.TaskFound.TheVariants.{Live, Ended, Missing}
use Rattle.command_roots.specs.Results.{found_of, has_result, keeping, status_of, task_named}
use Rattle.command_roots.specs.Roots.{context_named, least_size, page_answer, rows_of, scripted}
use Rattle.scroll_table.specs.declared.context.PageError.{PageError}
use Rattle.task_events.specs.declared.context.Context.{Context}
use Rattle.task_events.specs.declared.event.Event.{Event}
use Rattle.task_events.specs.declared.event.Event.TheVariants.{Root, RootRejected, Refuse, Cancel, NotFound, End}
use Rattle.task_events.specs.declared.reply.Counts.{Counts}
use Rattle.task_events.specs.declared.reply.Reply.{Reply}
use Rattle.task_events.specs.declared.reply.SearchReply.{SearchReply}
use Rattle.task_events.specs.declared.reply.Reply.TheVariants.{Search, AllFailed, Wrote, Cancelled}
use Rattle.task_events.specs.Printed.{object_of, count, search_json, shards_read, reply_line}
use Rattle.task_events.specs.declared.summary.Summary.{Summary}
use Rattle.task_events.specs.Summaries.{summary_of}
use Rattle.task_events.specs.Tasks.{no_counts, is_live, reply_of}
use Rattle.task_events.specs.Messages.{in_flight}
use Rattle.task_events.specs.Texts.{event_text}
use Rattle.task_events.specs.Clock.{clock}
use Rattle.task_events.specs.Contexts.{can_clear, context_at}
use Rattle.task_events.specs.Turns.{events_of, events_before, history_before}
use Rattle.task_events.specs.TaskRows.{row_of}
use Rattle.tasks_api.specs.Lists.{list_text, task_text}
use Rattle.line_print.specs.declared.note.Note.{Note}
use Rattle.line_print.specs.declared.note.Note.TheVariants.{NoSuchMessage, NotRunning, Waiting, NoListing, NoPage, Freed, Moment, Listed, Counted, Running, Completed, NoResult, Forgotten, Results}
use Rattle.line_print.specs.Errors.{body_error, reindex_error, index_not_found, rejected, task_cancelled, all_shards_failed, not_found, context_error, plain_error, no_such_message}

-- the line of a command that has no reply
abbrev pub error_line : ℕ → Data → List ℕ
error_line k error = compact_text (object_of ((codes "command", count k) ∷ (codes "error", error) ∷ [])) ++ 10 ∷ []

-- ---- events

-- the reason that a command gives, if it is a cancel
abbrev pub reason_in : Option Command → List ℕ
reason_in (Some (commands.Cancel target reason wait)) = reason
reason_in _ = []

-- the reason of the cancellation of this number
abbrev pub reason_of : List Command → ℕ → List ℕ
reason_of script c = reason_in (slice_get script (c - 1))

-- the reason that an event's text tells
abbrev pub reason_for : List Command → Event → List ℕ
reason_for script (Refuse t c) = reason_of script c
reason_for script _ = []

abbrev pub told : List Command → Event → List ℕ
told script event = event_text (reason_for script event) event

-- the texts of events, as a JSON list
abbrev pub told_all : List Command → List Event → Data
told_all script events = array (items_of (map (λ event. string (told script event)) events))

-- ---- searches

-- the task that ends with an event, and its reply
abbrev pub ending : Event → Option (TaskId × Reply)
ending (Refuse t c) = Some (t, Cancelled t c no_counts)
ending (End t reply) = Some (t, reply)
ending _ = None

-- the task that a command started, by one of its events
abbrev pub root_in : Event → Option TaskId
root_in (Root k t) = Some t
root_in _ = None

-- the node that had no slot for it
abbrev pub full_node_in : Event → Option ℕ
full_node_in (RootRejected k n) = Some n
full_node_in _ = None

-- the first thing that is found in a list
abbrev pub first_in : {X Y : Type 0} → (X → Option Y) → List X → Option Y
first_in look xs = slice_get (filter_map look xs) 0

-- the task that a command started
abbrev pub started : ℕ → List Event → Option TaskId
started k history = first_in root_in (events_of k history)

-- why a search or a reindex whose body has no fault has no task: an index that there is not, and else a node without a free slot
abbrev pub start_refusal : List ℕ → Bool → Option ℕ → Option Data
start_refusal index false full_node = Some (index_not_found index)
start_refusal index true (Some node) = Some (rejected node)
start_refusal index true None = None

-- Why a search has no task: a fault of its body, and else what refuses its start.
abbrev pub refusal : List ℕ → Result SearchBody BodyError → Bool → Option ℕ → Option Data
refusal index (Err fault) known full_node = Some (body_error fault)
refusal index (Ok body) known full_node = start_refusal index known full_node

-- the fault of a body that was read, if it has one
abbrev pub fault_in : Result SearchBody BodyError → Option BodyError
fault_in (Err fault) = Some fault
fault_in (Ok body) = None

-- How a search ended: with its hits and how many shards they are of, or with all its shards failed, or cancelled.
abbrev pub ended_line : (SearchReply → ℕ) → List Command → ℕ → Option Reply → List ℕ
ended_line shards script k (Some (Search reply)) = reply_line k (search_json (shards reply) reply)
ended_line shards script k (Some (AllFailed failed)) = error_line k (all_shards_failed failed)
ended_line shards script k (Some (Cancelled t c counts)) = error_line k (task_cancelled (reason_of script c) t)
ended_line shards script k _ = []

-- why a search has no task, or how its task ended
abbrev pub search_line : (SearchReply → ℕ) → List Command → ℕ → Option Data → Option Reply → List ℕ
search_line shards script k (Some error) reply = error_line k error
search_line shards script k None reply = ended_line shards script k reply

-- ---- reindexes

-- Why a reindex has no task: a fault of its body, and else what refuses its start, where the index that it reads must be known.
abbrev pub reindex_refusal : (List ℕ → Bool) → Result ReindexBody ReindexError → Option ℕ → Option Data
reindex_refusal known (Err fault) full_node = Some (reindex_error fault)
reindex_refusal known (Ok body) full_node = start_refusal body.source (known body.source) full_node

-- what a reindex has done, after Elasticsearch's reindex API
abbrev pub done_json : Counts → Data
done_json counts = object_of ((codes "batches", count counts.batches) ∷ (codes "created", count counts.created) ∷ (codes "failures", count counts.failures) ∷ (codes "total", count counts.total) ∷ (codes "updated", count counts.updated) ∷ [])

-- what a reindex had done when it was cancelled, and why it was
abbrev pub cancelled_json : List ℕ → Counts → Data
cancelled_json reason counts = object_of ((codes "batches", count counts.batches) ∷ (codes "canceled", string reason) ∷ (codes "created", count counts.created) ∷ (codes "total", count counts.total) ∷ (codes "updated", count counts.updated) ∷ [])

-- How a reindex ended: well, or cancelled. It tells in either case what it has done.
abbrev pub wrote_json : List Command → Reply → Option Data
wrote_json script (Wrote counts) = Some (done_json counts)
wrote_json script (Cancelled t c counts) = Some (cancelled_json (reason_of script c) counts)
wrote_json script _ = None

-- the line of a command whose reply is this, where it has one
abbrev pub told_line : ℕ → Option Data → List ℕ
told_line k (Some reply) = reply_line k reply
told_line k None = []

abbrev pub wrote_line : List Command → ℕ → Option Reply → List ℕ
wrote_line script k reply = told_line k (option_and_then (wrote_json script) reply)

-- why a reindex has no task, or how its task ended
abbrev pub reindex_line : List Command → ℕ → Option Data → Option Reply → List ℕ
reindex_line script k (Some error) reply = error_line k error
reindex_line script k None reply = wrote_line script k reply

-- ---- scrolls

-- why a scroll has no task: its context gives no page, as was noted, or a node has no free slot
abbrev pub page_refusal : Option Note → Option ℕ → Option Data
page_refusal (Some (NoPage id error)) full_node = Some (context_error id error)
page_refusal noted full_node = option_map rejected full_node

-- whether a clear freed a context, after Elasticsearch's clear scroll API
abbrev pub cleared : Bool → Data
cleared freed = object_of ((codes "num_freed", count (if freed then 1 else 0)) ∷ (codes "succeeded", boolean true) ∷ [])

-- what was noted of a clear
abbrev pub clear_line : ℕ → Option Note → List ℕ
clear_line k (Some (Freed freed)) = reply_line k (cleared freed)
clear_line k _ = []

-- ---- ticks

-- the moment by the clock
abbrev pub moment_json : ℕ → Data
moment_json now = object_of ((codes "now", count now) ∷ [])

-- the moment that was noted
abbrev pub tick_line : ℕ → Option Note → List ℕ
tick_line k (Some (Moment now)) = reply_line k (moment_json now)
tick_line k _ = []

-- ---- cancels

-- the task that a cancel is about, where it is about one
abbrev pub target_in : List Command → List Event → CancelTarget → Option TaskId
target_in script history (Task t) = Some t
target_in script history (Of k) = if nat_le k (length script) then started k history else None
target_in script history (Matching wanted) = None

-- the task that a cancel names, by one of its events
abbrev pub named_in : Event → Option TaskId
named_in (Cancel c t wait) = Some t
named_in _ = None

abbrev pub finds_none : Event → Bool
finds_none (NotFound c) = true
finds_none _ = false

-- the tasks that a cancel named, in the order in which it named them
abbrev pub cancelled : List TaskId → Bool → Data
cancelled tasks wait = object_of ((codes "cancelled", array (items_of (map (λ t. string (task_id_text t)) tasks))) ∷ (codes "waited", boolean wait) ∷ [])

-- the tasks that it named, or that it found none
abbrev pub cancel_line : ℕ → Option TaskId → Bool → List Event → List ℕ
cancel_line k target wait events =
    if list_any finds_none events then error_line k (not_found target) else reply_line k (cancelled (filter_map named_in events) wait)

-- ---- what is noted of a command before it begins

-- why a scroll has no page, if it has none
abbrev pub page_note : Option TaskId → Result Context PageError → Option Note
page_note id (Err error) = Some (NoPage id error)
page_note id (Ok context) = None

-- whether a context that is named can be cleared
abbrev pub frees : Script → Option TaskId → List Event → Bool
frees script id past = can_clear None (option_and_then (λ t. context_at (scripted script) t past) id)

-- a live task for which a get does not wait
abbrev pub running_note : Script → TaskId → List Event → Option Note
running_note script t past = option_map (λ row. Running (task_text (clock past) row) (status_of script t past)) (row_of (scripted script) t past)

-- what a get finds, which waits or not
abbrev pub get_note : Script → Bool → List Event → TaskFound → Option Note
get_note script wait past (Missing t) = Some (NoResult t)
get_note script wait past (Ended t) = Some (Completed t true)
get_note script true past (Live t) = Some (Completed t (is_stored (keeping script) t past))
get_note script false past (Live t) = running_note script t past

-- why a line of a schedule makes nothing happen or a scroll has no page, whether a clear frees a context, the moment after a tick, the
-- reply of a list, what a get finds, whether a forget takes a result away, the results that stand, or how many tasks, bans and writes came
-- and went
abbrev pub note_of : Cluster → Script → Command → List Event → Option Note
note_of cluster script (commands.Deliver nth) past = Some (NoSuchMessage (length (in_flight past)))
note_of cluster script (commands.Step t) past = Some (if is_live t past then Waiting else NotRunning)
note_of cluster script (commands.ListStep n p) past = Some NoListing
note_of cluster script (commands.ListTasks wanted group detailed) past = Some (Listed (list_text group detailed (clock past) wanted (rows_of cluster script past)))
note_of cluster script (commands.Scroll target keep opaque_id) past = page_note (context_named target past) (page_answer script target past)
note_of cluster script (commands.ClearScroll target) past = Some (Freed (frees script (context_named target past) past))
note_of cluster script (commands.Tick ms) past = Some (Moment (clock past + ms))
note_of cluster script (commands.GetTask target wait) past = get_note script wait past (found_of script target past)
note_of cluster script (commands.ForgetTask target) past = Some (Forgotten (has_result script (task_named target past) past))
note_of cluster script commands.ListResults past = Some (Results (keys (results_at (keeping script) past)))
note_of cluster script commands.Summary past = Some (Counted (summary_of past))
note_of cluster script _ past = None

-- ---- lists

-- the line of a command whose reply is this text
abbrev pub text_line : ℕ → List ℕ → List ℕ
text_line k text = codes "{\"command\":" ++ (decimal k ++ (codes ",\"reply\":" ++ (text ++ codes "}\n")))

-- the reply that was noted
abbrev pub list_line : ℕ → Option Note → List ℕ
list_line k (Some (Listed text)) = text_line k text
list_line k _ = []

-- ---- results

-- what a reindex has done so far
abbrev pub status_json : Counts → Data
status_json counts = object_of ((codes "batches", count counts.batches) ∷ (codes "created", count counts.created) ∷ (codes "total", count counts.total) ∷ (codes "updated", count counts.updated) ∷ [])

-- the member of that, where there is something to tell
abbrev pub status_text : Option Counts → List ℕ
status_text None = []
status_text (Some counts) = codes "\"status\":" ++ (compact_text (status_json counts) ++ codes ",")

-- a live task of which this is the text
abbrev pub running_text : List ℕ → Option Counts → List ℕ
running_text task status = codes "{\"completed\":false," ++ (status_text status ++ (codes "\"task\":" ++ (task ++ codes "}")))

-- what that text says: a live task that a list shows so
abbrev pub running_json : Data → Option Counts → Data
running_json task None = object_of ((codes "completed", boolean false) ∷ (codes "task", task) ∷ [])
running_json task (Some counts) = object_of ((codes "completed", boolean false) ∷ (codes "status", status_json counts) ∷ (codes "task", task) ∷ [])

-- the reply of a task, where it is told
abbrev pub response_part : Option Data → List (List ℕ × Data)
response_part None = []
response_part (Some response) = (codes "response", response) ∷ []

-- a task that has ended
abbrev pub completed_json : TaskId → Option Data → Data
completed_json t response = object_of ((codes "completed", boolean true) ∷ (response_part response ++ (codes "task", string (task_id_text t)) ∷ []))

-- the task that has ended, of which a get tells
abbrev pub completed_task : Option Note → Option TaskId
completed_task (Some (Completed t stored)) = Some t
completed_task _ = None

-- what a get finds; the reply of a task that has ended is told where it is stored
abbrev pub get_line : List Command → ℕ → Option Note → Option Reply → List ℕ
get_line script k (Some (Running task status)) reply = text_line k (running_text task status)
get_line script k (Some (Completed t stored)) reply = reply_line k (completed_json t (if stored then option_and_then (wrote_json script) reply else None))
get_line script k (Some (NoResult t)) reply = error_line k (not_found t)
get_line script k _ reply = []

-- whether a result was taken away
abbrev pub forgotten_json : Bool → Data
forgotten_json stood = object_of ((codes "forgotten", boolean stood) ∷ [])

abbrev pub forget_line : ℕ → Option Note → List ℕ
forget_line k (Some (Forgotten stood)) = reply_line k (forgotten_json stood)
forget_line k _ = []

-- the tasks whose results stand
abbrev pub results_json : List TaskId → Data
results_json tasks = object_of ((codes "tasks", array (items_of (map (λ t. string (task_id_text t)) tasks))) ∷ [])

abbrev pub results_line : ℕ → Option Note → List ℕ
results_line k (Some (Results tasks)) = reply_line k (results_json tasks)
results_line k _ = []

-- ---- summaries

-- how many tasks, bans and writes came and went
abbrev pub summary_json : Summary → Data
summary_json s = object_of ((codes "bans", count s.bans) ∷ (codes "cancelled", count s.cancelled) ∷ (codes "ended", count s.ended) ∷ (codes "refused", count s.refused) ∷ (codes "tasks", count s.tasks) ∷ (codes "unbans", count s.unbans) ∷ (codes "writes", count s.writes) ∷ [])

-- the summary that was noted
abbrev pub summary_line : ℕ → Option Note → List ℕ
summary_line k (Some (Counted s)) = reply_line k (summary_json s)
summary_line k _ = []

-- ---- lines of a schedule

-- why one made nothing happen, if the note tells that
abbrev pub idle_error : Note → Option Data
idle_error (NoSuchMessage in_flight) = Some (no_such_message in_flight)
idle_error NotRunning = Some (plain_error (codes "not_running"))
idle_error Waiting = Some (plain_error (codes "waiting"))
idle_error NoListing = Some (plain_error (codes "no_listing"))
idle_error _ = None

abbrev pub idle_line : ℕ → Option Data → List ℕ
idle_line k None = []
idle_line k (Some error) = error_line k error

-- what it made happen, or why it made nothing happen
abbrev pub moved_line : List Command → ℕ → List Event → Option Note → List ℕ
moved_line script k [] noted = idle_line k (option_and_then idle_error noted)
moved_line script k (e ∷ es) noted = reply_line k (told_all script (e ∷ es))

abbrev pub settled : ℕ → Data
settled events = object_of ((codes "events", count events) ∷ [])

-- ---- all lines

-- The line of a command. The last is what was noted of it, which tells what a list lists, why a scroll has no page, what a clear freed, the
-- moment after a tick, what a get found, what a forget took away, which results stand, the numbers of a summary, and of a line of a schedule
-- why nothing happened.
abbrev pub line_of : Cluster → Corpus → List Command → List Event → ℕ → Command → Option Note → List ℕ
line_of cluster corpus script history k (commands.Search index node scroll body opaque_id) noted =
    search_line (λ reply. cluster.shards) script k (refusal index (body_at (is_some scroll) (least_size scroll) body) (is_known corpus script index) (first_in full_node_in (events_of k history))) (option_and_then (λ t. reply_of t history) (started k history))
line_of cluster corpus script history k (commands.Scroll target keep opaque_id) noted =
    search_line shards_read script k (page_refusal noted (first_in full_node_in (events_of k history))) (option_and_then (λ t. reply_of t history) (started k history))
line_of cluster corpus script history k (commands.Reindex node body slices rate opaque_id store) noted =
    reindex_line script k (reindex_refusal (is_known corpus script) (reindex_at body) (first_in full_node_in (events_of k history))) (option_and_then (λ t. reply_of t history) (started k history))
line_of cluster corpus script history k (commands.ClearScroll target) noted = clear_line k noted
line_of cluster corpus script history k (commands.Tick ms) noted = tick_line k noted
line_of cluster corpus script history k (commands.Cancel target reason wait) noted = cancel_line k (target_in script history target) wait (events_of k history)
line_of cluster corpus script history k (commands.ListTasks wanted group detailed) noted = list_line k noted
line_of cluster corpus script history k (commands.GetTask target wait) noted = get_line script k noted (option_and_then (λ t. reply_of t history) (completed_task noted))
line_of cluster corpus script history k (commands.ForgetTask target) noted = forget_line k noted
line_of cluster corpus script history k commands.ListResults noted = results_line k noted
line_of cluster corpus script history k commands.Settle noted = reply_line k (settled (length (events_of k history)))
line_of cluster corpus script history k (commands.Shuffle seed moves) noted = reply_line k (settled (length (events_of k history)))
line_of cluster corpus script history k (commands.WaitFor number) noted = reply_line k (settled (length (events_of k history)))
line_of cluster corpus script history k commands.Summary noted = summary_line k noted
line_of cluster corpus script history k commands.History noted = reply_line k (told_all script (events_before k history))
line_of cluster corpus script history k (commands.Deliver nth) noted = moved_line script k (events_of k history) noted
line_of cluster corpus script history k (commands.Step t) noted = moved_line script k (events_of k history) noted
line_of cluster corpus script history k (commands.ListStep n p) noted = moved_line script k (events_of k history) noted

-- the lines of some commands, of which the first has this number
abbrev pub lines_from : (ℕ → Command → List ℕ) → ℕ → List Command → List ℕ
lines_from line k [] = []
lines_from line k (command ∷ more) = line k command ++ lines_from line (k + 1) more

-- The output of a script after its run: the line of each command, in order.
abbrev pub printed : Cluster → Corpus → Script → List Event → List ℕ
printed cluster corpus script history = lines_from (λ k command. line_of cluster corpus script.commands history k command (note_of cluster script command (history_before k history))) 1 script.commands

-- the same, where this was noted of the commands
abbrev pub printed_by : List (Option Note) → Cluster → Corpus → List Command → List Event → List ℕ
printed_by found cluster corpus script history = lines_from (λ k command. line_of cluster corpus script history k command (unwrap_or (slice_get found (k - 1)) None)) 1 script

-- the line of a command tells what was noted of it: the command is a list, a scroll, a clear, a tick, a summary or about results, or nothing
-- happened
abbrev pub TellsNote : ℕ → Command → List Event → Type 0
TellsNote k (commands.ListTasks wanted group detailed) history = ⊤
TellsNote k (commands.Scroll target keep opaque_id) history = ⊤
TellsNote k (commands.ClearScroll target) history = ⊤
TellsNote k (commands.Tick ms) history = ⊤
TellsNote k (commands.GetTask target wait) history = ⊤
TellsNote k (commands.ForgetTask target) history = ⊤
TellsNote k commands.ListResults history = ⊤
TellsNote k commands.Summary history = ⊤
TellsNote k _ history = events_of k history ≡ []

-- what the lines tell of it was noted of each command
abbrev pub IsFound : Cluster → Script → List Event → List (Option Note) → Type 0
IsFound cluster script history found = (i : ℕ) (command : Command) → slice_get script.commands i ≡ Some command → TellsNote (i + 1) command history → slice_get found i ≡ Some (note_of cluster script command (history_before (i + 1) history))
