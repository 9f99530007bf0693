-- What the book holds of the commands that have begun.
use Rattle.std.specs.Prelude.{◌≡◌, ℕ, ◌+◌, ◌-◌, ◌*◌, ◌≤◌, ◌||◌, List, [], Bool, true, false, Option, Some, None, is_some, IsSome, IsSomeAnd, option_and_then, take, slice_get, length}
use Rattle.std.specs.HashSet.{contains_by}
use Rattle.std.specs.List.{slice_set}
use Rattle.std.specs.Option.{option_map_or}
use Rattle.std.specs.Str.{bytes_eq}
use Rattle.command_roots.specs.Roots.{search_of}
use Rattle.reply_facts.specs.Settings.{Setting}
use Rattle.run_facts.specs.Cancels.{cancels_of}
use Rattle.run_facts.specs.Inboxes.{IsPoolSize}
use Rattle.task_ids.specs.Limits.{IsNode}
use Rattle.task_ids.specs.declared.task_id.TaskId.{TaskId}
use Rattle.script_lang.specs.declared.command.CancelTarget.{CancelTarget}
use Rattle.script_lang.specs.declared.command.CancelTarget.TheVariants as targets
use Rattle.script_lang.specs.declared.command.Command.{Command}
use Rattle.script_lang.specs.declared.command.Command.TheVariants as commands
use Rattle.script_lang.specs.Fits.{AllFit}
use Rattle.run_book.specs.declared.entry.Entry.{Entry}
use Rattle.run_book.specs.declared.entry.RootAsk.{RootAsk}
use Rattle.run_book.specs.declared.entry.RootAsk.TheVariants as roots
use Rattle.run_book.specs.declared.entry.State.{State}
use Rattle.run_book.specs.declared.entry.State.TheVariants as states
use Rattle.run_book.specs.declared.entry.Waits.{Waits}
use Rattle.run_book.specs.declared.entry.Waits.TheVariants as waits
use Rattle.run_book.specs.declared.book.Book.{Book}
use Rattle.run_book.specs.declared.book.Needs.{Needs}
use Rattle.run_book.specs.declared.book.Needs.TheVariants as needed
use Rattle.run_book.specs.Contexts.{AreOpened}
use Rattle.run_book.specs.Runs.{IsSettingOf}
use Rattle.run_book.specs.Notes.{names_one, cancel_in, is_list, moment_after, IsNote}

-- ---- by the number of a command

abbrev pub entry_of : List Entry → ℕ → Option Entry
entry_of entries command = slice_get entries (command - 1)

-- the task that it started, where it started one and that is known
abbrev pub root_of : List Entry → ℕ → Option TaskId
root_of entries command = option_and_then (λ e. e.root) (entry_of entries command)

abbrev pub has_answer : State → Bool
has_answer (states.Waits awaited) = false
has_answer (states.Answered answer) = true
has_answer states.Told = true

abbrev pub is_answered : List Entry → ℕ → Bool
is_answered entries command = option_map_or (λ e. has_answer e.state) (entry_of entries command) false

-- it is known which task it started, or that it started none
abbrev pub knows_root : List Entry → ℕ → Bool
knows_root entries command = is_some (root_of entries command) || is_answered entries command

-- the entry at a place is another, where there is one
pub record Turned (turn : Entry → Entry) (place : ℕ) (v w : List Entry) : Type 0 where
  pub there : (e : Entry) → slice_get v place ≡ Some e → w ≡ slice_set v place (turn e)
  pub none : slice_get v place ≡ None → w ≡ v

-- ---- what has to be known before a command begins

abbrev pub target_needs : CancelTarget → Needs
target_needs (targets.Task id) = needed.Nothing
target_needs (targets.Command number) = needed.Root number
target_needs (targets.Matching filter) = needed.Nothing

abbrev pub needs_of : Command → Needs
needs_of (commands.Search index node scroll body opaque_id) = needed.Nothing
needs_of (commands.Scroll context keep opaque_id) = needed.Pages
needs_of (commands.ClearScroll context) = needed.Pages
needs_of (commands.Reindex node body slices rate opaque_id store) = needed.Nothing
needs_of (commands.Cancel target reason wait) = target_needs target
needs_of (commands.ListTasks filter group detailed) = needed.Nothing
needs_of (commands.GetTask task wait) = needed.Nothing
needs_of (commands.ForgetTask task) = needed.Nothing
needs_of commands.ListResults = needed.Nothing
needs_of (commands.Tick ms) = needed.Pages
needs_of (commands.Deliver nth) = needed.Nothing
needs_of (commands.Step task) = needed.Nothing
needs_of (commands.ListStep node parent) = needed.Nothing
needs_of commands.Settle = needed.Nothing
needs_of (commands.Shuffle seed moves) = needed.Nothing
needs_of (commands.WaitFor command) = needed.Answer command
needs_of commands.History = needed.Nothing
needs_of commands.Summary = needed.Nothing

-- it opens or uses a context
abbrev pub uses_context : Command → Bool
uses_context (commands.Search index node scroll body opaque_id) = is_some scroll
uses_context (commands.Scroll context keep opaque_id) = true
uses_context _ = false

-- ---- what the book keeps

-- the root of a command was asked for what that is about: a page of a search of which it is known what it looks for, a search whose body has no fault, or a reindex
abbrev pub IsRootOf : Setting → Command → RootAsk → Type 0
IsRootOf run (commands.Search index node scroll body opaque_id) roots.Search = IsSome (search_of (commands.Search index node scroll body opaque_id))
IsRootOf run (commands.Scroll context keep opaque_id) (roots.Page sent) = IsSome (run.sought sent.page.search)
IsRootOf run (commands.Reindex node body slices rate opaque_id store) roots.Reindex = Unit {0}
IsRootOf run _ _ = ⊥

-- what a command waits for is what it asked; a list waits for the part of each data worker, of which there are so many
abbrev pub IsAwaited : Setting → List Command → ℕ → ℕ → Command → Waits → Type 0
IsAwaited run script parts k command (waits.Root asked) = IsRootOf run command asked
IsAwaited run script parts k command (waits.Cancel task wait) = IsSomeAnd (cancel_in command) (λ c. (names_one c.0 ≡ true) × (c.1 ≡ wait))
IsAwaited run script parts k command (waits.Naming naming) = IsSomeAnd (cancel_in command) (λ c. (names_one c.0 ≡ false) × (c.1 ≡ naming.wait))
IsAwaited run script parts k command (waits.Rows gathered now) = (is_list command ≡ true) × (now ≡ moment_after (take k script)) × (length gathered.given ≡ parts)

module _ (allowed : ℕ → Type 0) (run : Setting) (known : List ℕ → Bool) (script : List Command) (parts : ℕ) where
  -- how far the command of this number is
  abbrev pub IsState : ℕ → Command → State → Type 0
  IsState k command (states.Waits awaited) = IsAwaited run script parts k command awaited
  IsState k command (states.Answered answer) = IsNote allowed run known script k command answer.reply answer.receipt answer.page
  IsState k command states.Told = Unit {0}

  -- each command that has begun is as far as it can be
  abbrev pub AreEntries : List Entry → Type 0
  AreEntries entries = (place : ℕ) (e : Entry) (c : Command) → slice_get entries place ≡ Some e → slice_get script place ≡ Some c → IsState (place + 1) c e.state

-- the commands of a run: they are of its cluster, each cancel is one of the run, and what is known of the run is known by them
pub record CanDrive (cancels : ℕ → Type 0) (run : Setting) (count : ℕ) (script : List Command) : Type 0 where
  pub nodes : IsNode count
  pub few : length script ≤ 65535
  pub fit : AllFit count [] script
  pub named : (place : ℕ) (c : Command) → slice_get script place ≡ Some c → IsSome (cancel_in c) → cancels (place + 1)
  pub setting : IsSettingOf script run

-- an index is known to the book
abbrev pub is_known_to : {W : Type 0} → Book W → List ℕ → Bool
is_known_to book index = contains_by (λ k. bytes_eq index k.now) book.known.now

-- how many data workers its cluster has
abbrev pub parts_in : {W : Type 0} → Book W → ℕ
parts_in book = book.nodes * book.workers

-- What the book of a run keeps: its commands can be driven, by a pool of workers; those that have begun are the first ones, each as far as it can be; its clock is the sum of the ticks so far; and its contexts were opened by searches of the script.
pub record Keeps {W : Type 0} (cancels : ℕ → Type 0) (run : Setting) (book : Book W) : Type 0 where
  pub can : CanDrive cancels run book.nodes book.script.now
  pub pool : IsPoolSize book.workers
  pub begun : length book.entries.items ≤ length book.script.now
  pub each : AreEntries (cancels_of cancels) run (is_known_to book) book.script.now (parts_in book) book.entries.items
  pub clock : book.clock ≡ moment_after (take (length book.entries.items) book.script.now)
  pub contexts : AreOpened run book.contexts

-- the book is of the same run
pub record SameRun {W : Type 0} (v w : Book W) : Type 0 where
  pub nodes : w.nodes ≡ v.nodes
  pub workers : w.workers ≡ v.workers
  pub script : w.script ≡ v.script
  pub known : w.known ≡ v.known

-- Nothing else has changed but the commands that have begun, and the contexts.
pub record SameTime {W : Type 0} (v w : Book W) : Type 0 where
  pub run : SameRun v w
  pub paging : w.paging.items ≡ v.paging.items
  pub clock : w.clock ≡ v.clock
