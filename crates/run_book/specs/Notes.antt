-- What the commands of a run over threads may come to.
use Rattle.std.specs.Prelude.{◌≡◌, ℕ, ◌+◌, List, [], ◌∷◌, ◌++◌, Bool, true, false, Option, Some, None, is_some, option_map, option_and_then, IsSomeAnd, Err, take, slice_get, length}
use Rattle.std.specs.List.{sum_by}
use Rattle.std.specs.Result.{result_ok}
use Rattle.child_track.specs.Token.{ReceiptParts}
use Rattle.node_link.specs.Lawful.{IsLawfulReply}
use Rattle.query_parse.specs.declared.fault.BodyError.{BodyError}
use Rattle.query_parse.specs.declared.fault.ReindexError.{ReindexError}
use Rattle.query_parse.specs.Bodies.{body_at}
use Rattle.query_parse.specs.Reindexes.{reindex_at}
use Rattle.task_ids.specs.declared.task_id.TaskId.{TaskId}
use Rattle.script_lang.specs.declared.command.CancelTarget.{CancelTarget}
use Rattle.script_lang.specs.declared.command.CancelTarget.TheVariants as targets
use Rattle.script_lang.specs.declared.command.Command.{Command}
use Rattle.script_lang.specs.declared.command.Command.TheVariants as commands
use Rattle.script_lang.specs.Targets.{starts_task}
use Rattle.reply_facts.specs.Settings.{Setting}
use Rattle.task_events.specs.declared.reply.Reply.{Reply}
use Rattle.run_book.specs.declared.entry.LineNote.{LineNote}
use Rattle.run_book.specs.declared.entry.PageNote.{PageNote}
use Rattle.run_book.specs.Runs.{ShowsPage, ShowsPlainly}
use Rattle.run_book.specs.Listing.{Shows}
use Rattle.command_roots.specs.Roots.{least_size, search_of}
use Rattle.line_print.specs.Lines.{fault_in}
use Rattle.line_print.specs.declared.reply.LineReply.{LineReply}
use Rattle.line_print.specs.declared.reply.LineReply.TheVariants as replies

-- by how much a command moves the clock
abbrev pub tick_of : Command → ℕ
tick_of (commands.Tick ms) = ms
tick_of _ = 0

-- the moment after some commands: the sum of their ticks
abbrev pub moment_after : List Command → ℕ
moment_after script = sum_by tick_of script

-- a cancel of one task, whether by its id or by the command that started it
abbrev pub names_one : CancelTarget → Bool
names_one (targets.Task id) = true
names_one (targets.Command number) = true
names_one (targets.Matching filter) = false

-- the last of some tasks
abbrev pub IsLast : TaskId → List TaskId → Type 0
IsLast task tasks = (before : List TaskId) × (tasks ≡ before ++ task ∷ [])

-- a receipt is that of this task
abbrev pub IsReceiptOf : TaskId → Option ReceiptParts → Type 0
IsReceiptOf task receipt = option_and_then (λ r. r.task) receipt ≡ Some task

-- the first fault of a search's body, where it has one
abbrev pub body_fault : Command → Option BodyError
body_fault (commands.Search index node scroll body opaque_id) = fault_in (body_at (is_some scroll) (least_size scroll) body)
body_fault _ = None

-- the first fault of a reindex's body
abbrev pub IsReindexFault : Command → ReindexError → Type 0
IsReindexFault (commands.Reindex node body slices rate opaque_id store) fault = reindex_at body ≡ Err fault
IsReindexFault _ fault = ⊥

-- the index that a command reads, where its body has no fault
abbrev pub index_read : Command → Option (List ℕ)
index_read (commands.Search index node scroll body opaque_id) = option_map (λ read. index) (result_ok (body_at (is_some scroll) (least_size scroll) body))
index_read (commands.Reindex node body slices rate opaque_id store) = option_map (λ read. read.source) (result_ok (reindex_at body))
index_read _ = None

abbrev pub is_scroll : Command → Bool
is_scroll (commands.Scroll context keep opaque_id) = true
is_scroll _ = false

abbrev pub is_clear : Command → Bool
is_clear (commands.ClearScroll context) = true
is_clear _ = false

abbrev pub is_tick : Command → Bool
is_tick (commands.Tick ms) = true
is_tick _ = false

abbrev pub is_list : Command → Bool
is_list (commands.ListTasks filter group detailed) = true
is_list _ = false

-- what a cancel names, and whether it waits
abbrev pub cancel_in : Command → Option (CancelTarget × Bool)
cancel_in (commands.Cancel target reason wait) = Some (target, wait)
cancel_in _ = None

-- it waits for another command, or is a line of a schedule or about results, which no script of a run has
abbrev pub says_answered : Command → Bool
says_answered (commands.WaitFor command) = true
says_answered (commands.GetTask task wait) = true
says_answered (commands.ForgetTask task) = true
says_answered commands.ListResults = true
says_answered (commands.Deliver nth) = true
says_answered (commands.Step task) = true
says_answered (commands.ListStep node parent) = true
says_answered commands.Settle = true
says_answered (commands.Shuffle seed moves) = true
says_answered commands.History = true
says_answered commands.Summary = true
says_answered _ = false

-- A cancel named tasks. Where it waits it has the receipt of the last of them.
pub record HasCancelled (target : CancelTarget) (wait : Bool) (tasks : List TaskId) (says : Bool) (receipt : Option ReceiptParts) : Type 0 where
  pub waited : says ≡ wait
  pub one : names_one target ≡ true → length tasks ≡ 1
  pub ended : wait ≡ true → (task : TaskId) → IsLast task tasks → IsReceiptOf task receipt

-- What the reply of a task of a command shows: a search the plain answer, and a scroll a page of one.
abbrev pub ShowsFor : Setting → Command → Option PageNote → Reply → Type 0
ShowsFor run (commands.Search index node scroll body opaque_id) page reply = IsSomeAnd (search_of (commands.Search index node scroll body opaque_id)) (λ ask. ShowsPlainly run ask reply)
ShowsFor run (commands.Scroll context keep opaque_id) page reply = IsSomeAnd page (λ note. ShowsPage run note reply)
ShowsFor run _ page reply = Unit {0}

-- The reply of a task of a command.
pub record IsTaskNote (allowed : ℕ → Type 0) (run : Setting) (command : Command) (page : Option PageNote) (reply : Reply) : Type 0 where
  pub starts : starts_task command ≡ true
  pub lawful : IsLawfulReply allowed reply
  pub shows : ShowsFor run command page reply

module _ (allowed : ℕ → Type 0) (run : Setting) (known : List ℕ → Bool) (script : List Command) where
  -- what the command of this number comes to
  abbrev pub IsNote : ℕ → Command → LineReply → Option ReceiptParts → Option PageNote → Type 0
  IsNote k command (replies.Task reply) receipt page = IsTaskNote allowed run command page reply
  IsNote k command (replies.BadBody fault) receipt page = body_fault command ≡ Some fault
  IsNote k command (replies.BadReindex fault) receipt page = IsReindexFault command fault
  IsNote k command (replies.NoIndex index) receipt page = (index_read command ≡ Some index) × (known index ≡ false)
  IsNote k command (replies.NoContext context) receipt page = is_scroll command ≡ true
  IsNote k command (replies.NotFound task) receipt page = IsSomeAnd (cancel_in command) (λ c. names_one c.0 ≡ true)
  IsNote k command (replies.Cancelled tasks waited) receipt page = IsSomeAnd (cancel_in command) (λ c. HasCancelled c.0 c.1 tasks waited receipt)
  IsNote k command (replies.Cleared freed) receipt page = is_clear command ≡ true
  IsNote k command (replies.Now now) receipt page = (is_tick command ≡ true) × (now ≡ moment_after (take k script))
  IsNote k command (replies.Listed rows now) receipt page = (is_list command ≡ true) × Shows rows now × (now ≡ moment_after (take k script))
  IsNote k command replies.Answered receipt page = says_answered command ≡ true

  -- the note of the command at a place, from 0
  pub record IsNoteAt (place : ℕ) (note : LineNote) : Type 0 where
    pub number : note.command ≡ place + 1
    pub command : Command
    pub there : slice_get script place ≡ Some command
    pub is : IsNote (place + 1) command note.reply note.receipt note.page
