-- Each command of a whole run has its line: what there is to tell of it stands in what happened.
use Rattle.std.specs.Prelude.{◌≡◌, ◌≢◌, ◌≤◌, ◌⊎◌, ℕ, Bool, true, false, ◌==◌, List, [], ◌∷◌, ◌++◌, count_by, filter_map, length, is_ok, is_some, Option, Some, None, Ok, Err, ⊤}
use Rattle.std.specs.List.{list_any}
use Rattle.serde_json.specs.Data.{Data}
use Rattle.query_parse.specs.declared.reindex_body.ReindexBody.{ReindexBody}
use Rattle.query_parse.specs.Bodies.{body_at}
use Rattle.query_parse.specs.Reindexes.{reindex_at}
use Rattle.query_parse.specs.declared.fault.BodyError.{BodyError}
use Rattle.query_parse.specs.declared.fault.BodyError.TheVariants.{Memory}
use Rattle.task_ids.specs.declared.cluster.Cluster.{Cluster}
use Rattle.task_ids.specs.declared.corpus.Corpus.{Corpus}
use Rattle.task_ids.specs.declared.task_id.TaskId.{TaskId}
use Rattle.task_ids.specs.declared.task_info.TaskInfo.{TaskInfo}
use Rattle.task_ids.specs.declared.text.Text.{Text}
use Rattle.script_lang.specs.declared.command.CancelTarget.{CancelTarget}
use Rattle.script_lang.specs.declared.command.CancelTarget.TheVariants.{Matching}
use Rattle.script_lang.specs.declared.command.ContextTarget.{ContextTarget}
use Rattle.script_lang.specs.declared.command.Command.{Command}
use Rattle.script_lang.specs.declared.command.Command.TheVariants.{Search, Scroll, ClearScroll, Reindex, Tick, Cancel, ListTasks, GetTask, ForgetTask, ListResults, Deliver, Step, ListStep, Settle, Shuffle, WaitFor, History, Summary}
use Rattle.script_lang.specs.declared.command.Script.{Script}
use Rattle.script_lang.specs.declared.command.TaskTarget.{TaskTarget}
use Rattle.task_events.specs.declared.event.Event.{Event}
use Rattle.task_events.specs.declared.event.Event.TheVariants as events
use Rattle.task_events.specs.declared.reply.Reply.{Reply}
use Rattle.task_events.specs.declared.reply.Reply.TheVariants as replies
use Rattle.task_events.specs.Bans.{mark_of}
use Rattle.task_events.specs.Messages.{in_flight}
use Rattle.task_events.specs.TaskRows.{row_of}
use Rattle.task_events.specs.Tasks.{is_live, refusal_of, reply_of}
use Rattle.task_events.specs.Turns.{events_of, history_before}
use Rattle.world_moves.specs.Cancels.{is_answered, target_of, targets}
use Rattle.world_moves.specs.Listings.{is_open}
use Rattle.command_roots.specs.Known.{is_known}
use Rattle.task_results.specs.Stands.{ResultStands}
use Rattle.command_roots.specs.declared.results.TaskFound.{TaskFound}
use Rattle.command_roots.specs.declared.results.TaskFound.TheVariants.{Live, Ended, Missing}
use Rattle.command_roots.specs.Results.{found_of, keeping}
use Rattle.command_roots.specs.Roots.{command_at, least_size, scripted}
use Rattle.world_steps.specs.Runs.{next_of}
use Rattle.world_steps.specs.Scripts.{can_page, page_node}
use Rattle.line_print.specs.Lines.{named_in, finds_none, note_of, line_of, printed}

-- ---- a search

-- The reply of a search: its answer, or that all its shards failed, or that it was cancelled itself.
abbrev pub IsSearchReply : TaskId → Reply → Type 0
IsSearchReply t (replies.Search reply) = ⊤
IsSearchReply t (replies.AllFailed failed) = ⊤
IsSearchReply t (replies.Cancelled u c counts) = u ≡ t
IsSearchReply t _ = ⊥

-- the body has a fault; want of memory is none
abbrev pub HasFault : Option ℕ → Data → Type 0
HasFault scroll body = (fault : BodyError) × (body_at (is_some scroll) (least_size scroll) body ≡ Err fault) × (fault ≢ Memory)

-- the task of a command started and ended with such a reply
pub record HasEnded (IsReply : TaskId → Reply → Type 0) (k : ℕ) (h : List Event) : Type 0 where
  pub task : TaskId
  pub reply : Reply
  pub started : events_of k h ≡ events.Root k task ∷ []
  pub replied : reply_of task h ≡ Some reply
  pub told : IsReply task reply

-- Its body has a fault, or its index is not known, or its node had no slot, or its task ended.
abbrev pub TellsSearch : Corpus → List Command → List ℕ → ℕ → Option ℕ → Data → ℕ → List Event → Type 0
TellsSearch corpus commands index node scroll body k h =
    HasFault scroll body
    ⊎ (is_known corpus commands index ≡ false)
    ⊎ (events_of k h ≡ events.RootRejected k node ∷ [])
    ⊎ HasEnded IsSearchReply k h

-- ---- a scroll

-- Its context was missing or busy as it came, or the node of that had no slot, or its task ended.
abbrev pub TellsPage : Script → ContextTarget → ℕ → List Event → Type 0
TellsPage script target k h =
    (can_page script target (history_before k h) ≡ false)
    ⊎ (events_of k h ≡ events.RootRejected k (page_node target (history_before k h)) ∷ [])
    ⊎ HasEnded IsSearchReply k h

-- ---- a reindex

-- The reply of a reindex: what it has done, or that it was cancelled itself.
abbrev pub IsReindexReply : TaskId → Reply → Type 0
IsReindexReply t (replies.Wrote counts) = ⊤
IsReindexReply t (replies.Cancelled u c counts) = u ≡ t
IsReindexReply t _ = ⊥

-- it reads an index that is not known
abbrev pub ReadsUnknown : Corpus → List Command → Data → Type 0
ReadsUnknown corpus commands body = (read : ReindexBody) × (reindex_at body ≡ Ok read) × (is_known corpus commands read.source ≡ false)

-- Its body has a fault, or the index that it reads is not known, or its node had no slot, or its task ended.
abbrev pub TellsReindex : Corpus → List Command → ℕ → Data → ℕ → List Event → Type 0
TellsReindex corpus commands node body k h =
    (is_ok (reindex_at body) ≡ false)
    ⊎ ReadsUnknown corpus commands body
    ⊎ (events_of k h ≡ events.RootRejected k node ∷ [])
    ⊎ HasEnded IsReindexReply k h

-- ---- a cancel

-- the history as a command began
abbrev pub as_began : ℕ → List Event → List Event
as_began k h = events.Begin k ∷ history_before k h

-- the cancel named these tasks, in this order, and no other, and has its answer
pub record HasNamed (k : ℕ) (tasks : List TaskId) (h : List Event) : Type 0 where
  pub named : filter_map named_in (events_of k h) ≡ tasks
  pub found : list_any finds_none (events_of k h) ≡ false
  pub answered : is_answered k h ≡ true

-- it named the one task that it is about
abbrev pub HasNamedOne : ℕ → CancelTarget → List Event → Type 0
HasNamedOne k target h = (task : TaskId) × (target_of target (as_began k h) ≡ Some task) × HasNamed k (task ∷ []) h

-- A cancel by a filter named each live task that the filter lets through, by ascending id; another the task that it is about, or it found none.
abbrev pub TellsCancel : Cluster → Script → CancelTarget → ℕ → List Event → Type 0
TellsCancel cluster script (Matching wanted) k h = HasNamed k (targets cluster script wanted (as_began k h)) h
TellsCancel cluster script target k h = (events_of k h ≡ events.NotFound k ∷ []) ⊎ HasNamedOne k target h

-- ---- a get

-- Whatever a get found as it came stands behind what it tells. A result is the reply of its task. A live task has a row, which is shown;
-- where the get waits it has ended by now, and so it is told as completed only once it has.
abbrev pub TellsFound : Script → Bool → List Event → List Event → TaskFound → Type 0
TellsFound script wait past h (Missing t) = ⊤
TellsFound script wait past h (Ended t) = (reply : Reply) × ResultStands (keeping script) t reply past × (reply_of t h ≡ Some reply)
TellsFound script true past h (Live t) = (reply : Reply) × (reply_of t h ≡ Some reply)
TellsFound script false past h (Live t) = (row : TaskInfo) × (row_of (scripted script) t past ≡ Some row)

abbrev pub TellsTask : Script → TaskTarget → Bool → ℕ → List Event → Type 0
TellsTask script target wait k h = TellsFound script wait (history_before k h) h (found_of script target (history_before k h))

-- ---- a line of a schedule

-- something happened in the command
abbrev pub Moved : ℕ → List Event → Type 0
Moved k h = events_of k h ≢ []

-- ---- all commands

module _ (cluster : Cluster) (corpus : Corpus) (script : Script) where
  -- a live task that waits
  abbrev pub Waits : TaskId → List Event → Type 0
  Waits t past = (is_live t past ≡ true) × (next_of cluster corpus script t past ≡ None)

  -- What the line of a command tells: a `deliver`, a `step` or a `list_step` of its events, or else of why nothing happened. A list, a clear, a forget, a list of results and a summary tell what was noted of them; a `settle`, a `shuffle`, a `wait_for` and a `history` tell of any number of events.
  abbrev pub HasItsLine : List Event → ℕ → Command → Type 0
  HasItsLine h k (Search index node scroll body opaque_id) = TellsSearch corpus script.commands index node scroll body k h
  HasItsLine h k (Scroll target keep opaque_id) = TellsPage script target k h
  HasItsLine h k (ClearScroll target) = ⊤
  HasItsLine h k (Reindex node body slices rate opaque_id store) = TellsReindex corpus script.commands node body k h
  HasItsLine h k (Tick ms) = events_of k h ≡ events.Tick ms ∷ []
  HasItsLine h k (Cancel target reason wait) = TellsCancel cluster script target k h
  HasItsLine h k (ListTasks wanted group detailed) = ⊤
  HasItsLine h k (GetTask target wait) = TellsTask script target wait k h
  HasItsLine h k (ForgetTask target) = ⊤
  HasItsLine h k ListResults = ⊤
  HasItsLine h k (Deliver nth) = Moved k h ⊎ (length (in_flight (as_began k h)) ≤ nth)
  HasItsLine h k (Step t) = Moved k h ⊎ (is_live t (as_began k h) ≡ false) ⊎ Waits t (as_began k h)
  HasItsLine h k (ListStep node parent) = Moved k h ⊎ (is_open (record { node = node; parent = parent }) (as_began k h) ≡ false)
  HasItsLine h k Settle = ⊤
  HasItsLine h k (Shuffle seed moves) = ⊤
  HasItsLine h k (WaitFor waited) = ⊤
  HasItsLine h k History = ⊤
  HasItsLine h k Summary = ⊤

  -- Each command of the script has it.
  abbrev pub EachHasItsLine : List Event → Type 0
  EachHasItsLine h = (k : ℕ) (command : Command) → command_at script k ≡ Some command → HasItsLine h k command

-- ---- its text

abbrev pub is_newline : ℕ → Bool
is_newline byte = byte == 10

-- some text without a newline, and a newline
abbrev pub IsLine : List ℕ → Type 0
IsLine text = (told : List ℕ) × (text ≡ told ++ 10 ∷ []) × (list_any is_newline told ≡ false)

-- What the output has for each command is one line.
abbrev pub EachPrintsALine : Cluster → Corpus → Script → List Event → Type 0
EachPrintsALine cluster corpus script h = (k : ℕ) (command : Command) → command_at script k ≡ Some command → IsLine (line_of cluster corpus script.commands h k command (note_of cluster script command (history_before k h)))

-- ---- its reason

-- the command of this number is a cancel
abbrev pub IsCancelAt : Script → ℕ → Type 0
IsCancelAt script c = (target : CancelTarget) × (reason : Text) × (wait : Bool) × (command_at script c ≡ Some (Cancel target reason wait))

-- Each mark and each refusal has the number of a cancel of the script, whose reason is told of it.
pub record TellsReasons (script : Script) (h : List Event) : Type 0 where
  pub marks : (t : TaskId) (c : ℕ) → mark_of t h ≡ Some c → IsCancelAt script c
  pub refusals : (t : TaskId) (c : ℕ) → refusal_of t h ≡ Some c → IsCancelAt script c

-- Each command has its line, and what is printed for it is one line; so there are as many lines as commands. The reasons are those of cancels.
pub record HasLines (cluster : Cluster) (corpus : Corpus) (script : Script) (h : List Event) : Type 0 where
  pub told : EachHasItsLine cluster corpus script h
  pub one_line : EachPrintsALine cluster corpus script h
  pub as_many : count_by is_newline (printed cluster corpus script h) ≡ length script.commands
  pub reasons : TellsReasons script h
