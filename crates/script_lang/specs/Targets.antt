-- What commands name: a cancel a task or tasks, a scroll and a clear a context, a get and a forget a task.
use Rattle.std.specs.Prelude.{ℕ, zero, suc, List, Bool, true, false, codes, Option, Some, None, is_some, is_none, option_and_then, Result, Ok, Err, if◌then◌else◌, slice_get}
use Rattle.std.specs.Option.{ok_or, option_map_or}
use Rattle.serde_json.specs.Data.{Data, Members}
use Rattle.serde_json.specs.Find.{get_member, as_number, as_u64}
use Rattle.task_ids.specs.declared.cause.Cause.{Cause}
use Rattle.task_ids.specs.declared.cause.Cause.TheVariants.{BadField, BadReference, NotWaitable}
use Rattle.shard_docs.specs.Fault.{◌>>=◌}
use Rattle.script_lang.specs.declared.command.CancelTarget.{CancelTarget}
use Rattle.script_lang.specs.declared.command.CancelTarget.TheVariants as targets
use Rattle.script_lang.specs.declared.command.Command.{Command}
use Rattle.script_lang.specs.declared.command.Command.TheVariants.{Search, Scroll, ClearScroll, Reindex, Cancel, ListTasks, GetTask, ForgetTask, ListResults, Tick, Deliver, Step, ListStep, Settle, Shuffle, WaitFor, History, Summary}
use Rattle.script_lang.specs.declared.command.ContextTarget.{ContextTarget}
use Rattle.script_lang.specs.declared.command.ContextTarget.TheVariants as contexts
use Rattle.script_lang.specs.declared.command.TaskTarget.{TaskTarget}
use Rattle.script_lang.specs.declared.command.TaskTarget.TheVariants as tasks
use Rattle.script_lang.specs.declared.targets.NamedFor.{NamedFor}
use Rattle.script_lang.specs.declared.targets.NamedFor.TheVariants as uses
use Rattle.script_lang.specs.Fields.{task_in}
use Rattle.script_lang.specs.Filters.{has_filter, filter_in}

abbrev pub starts_task : Command → Bool
starts_task (Search index node scroll body opaque_id) = true
starts_task (Scroll context keep opaque_id) = true
starts_task (ClearScroll context) = false
starts_task (Reindex node body slices rate opaque_id store) = true
starts_task (Cancel target reason wait) = false
starts_task (ListTasks filter group detailed) = false
starts_task (GetTask task wait) = false
starts_task (ForgetTask task) = false
starts_task ListResults = false
starts_task (Tick ms) = false
starts_task (Deliver nth) = false
starts_task (Step task) = false
starts_task (ListStep node parent) = false
starts_task Settle = false
starts_task (Shuffle seed moves) = false
starts_task (WaitFor command) = false
starts_task History = false
starts_task Summary = false

-- it is a search with a keep-alive
abbrev pub opens_context : Command → Bool
opens_context (Search index node scroll body opaque_id) = is_some scroll
opens_context (Scroll context keep opaque_id) = false
opens_context (ClearScroll context) = false
opens_context (Reindex node body slices rate opaque_id store) = false
opens_context (Cancel target reason wait) = false
opens_context (ListTasks filter group detailed) = false
opens_context (GetTask task wait) = false
opens_context (ForgetTask task) = false
opens_context ListResults = false
opens_context (Tick ms) = false
opens_context (Deliver nth) = false
opens_context (Step task) = false
opens_context (ListStep node parent) = false
opens_context Settle = false
opens_context (Shuffle seed moves) = false
opens_context (WaitFor command) = false
opens_context History = false
opens_context Summary = false

-- Another command can wait for its answer: it is a search, a scroll, a cancel, or a reindex that writes as fast as it can.
abbrev pub can_be_awaited : Command → Bool
can_be_awaited (Search index node scroll body opaque_id) = true
can_be_awaited (Scroll context keep opaque_id) = true
can_be_awaited (ClearScroll context) = false
can_be_awaited (Reindex node body slices rate opaque_id store) = is_none rate
can_be_awaited (Cancel target reason wait) = true
can_be_awaited (ListTasks filter group detailed) = false
can_be_awaited (GetTask task wait) = false
can_be_awaited (ForgetTask task) = false
can_be_awaited ListResults = false
can_be_awaited (Tick ms) = false
can_be_awaited (Deliver nth) = false
can_be_awaited (Step task) = false
can_be_awaited (ListStep node parent) = false
can_be_awaited Settle = false
can_be_awaited (Shuffle seed moves) = false
can_be_awaited (WaitFor command) = false
can_be_awaited History = false
can_be_awaited Summary = false

-- a command has what it is named for
abbrev pub allows : NamedFor → Command → Bool
allows uses.Task command = starts_task command
allows uses.Context command = opens_context command
allows uses.Anything command = true
allows uses.Answer command = can_be_awaited command

-- one of the commands has this number, from 1, and passes a test
abbrev pub is_at : (Command → Bool) → List Command → ℕ → Bool
is_at test commands zero = false
is_at test commands (suc place) = option_map_or test (slice_get commands place) false

abbrev pub number_at : (Command → Bool) → List Command → ℕ → Option ℕ
number_at test before number = if is_at test before number then Some number else None

-- the number of an earlier command that passes a test
unfoldable pub reference_in : (Command → Bool) → List Command → Data → Result ℕ Cause
reference_in test before value = do
  number ← ok_or (as_number value) BadField
  ok_or (option_and_then (number_at test before) (as_u64 number)) BadReference

-- ---- the task or the tasks of a cancel

-- this, where no field of a filter stands beside it
abbrev pub alone : {A : Type 0} → Members → Result A Cause → Result A Cause
alone fields found = if has_filter fields then Err BadField else found

-- by what stands at `task_id` and at `command`, if they are there
abbrev pub target_of : List Command → Members → Option Data → Option Data → Result CancelTarget Cause
target_of before fields None None = filter_in fields >>= λ filter. Ok (targets.Matching filter)
target_of before fields (Some task) None = alone fields (task_in (Some task) >>= λ id. Ok (targets.Task id))
target_of before fields None (Some command) = alone fields (reference_in starts_task before command >>= λ number. Ok (targets.Command number))
target_of before fields (Some task) (Some command) = Err BadField

-- a task id, an earlier command, or where there is neither a filter
unfoldable pub target_in : List Command → Members → Result CancelTarget Cause
target_in before fields = target_of before fields (get_member (codes "task_id") fields) (get_member (codes "command") fields)

-- ---- the context of a scroll and of a clear

-- by what stands at `scroll_id` and at `command`, one of which must be there
abbrev pub context_of : List Command → Option Data → Option Data → Result ContextTarget Cause
context_of before None None = Err BadField
context_of before (Some id) None = task_in (Some id) >>= λ id. Ok (contexts.Id id)
context_of before None (Some command) = reference_in opens_context before command >>= λ number. Ok (contexts.Command number)
context_of before (Some id) (Some command) = Err BadField

-- the id of a search, or an earlier search with a keep-alive
unfoldable pub context_in : List Command → Members → Result ContextTarget Cause
context_in before fields = context_of before (get_member (codes "scroll_id") fields) (get_member (codes "command") fields)

-- ---- the task of a get and of a forget

-- by what stands at `task_id` and at `command`, one of which must be there
abbrev pub one_task_of : List Command → Option Data → Option Data → Result TaskTarget Cause
one_task_of before None None = Err BadField
one_task_of before (Some task) None = task_in (Some task) >>= λ id. Ok (tasks.Id id)
one_task_of before None (Some command) = reference_in starts_task before command >>= λ number. Ok (tasks.Command number)
one_task_of before (Some task) (Some command) = Err BadField

-- a task id, or an earlier command that starts a task
unfoldable pub one_task_in : List Command → Members → Result TaskTarget Cause
one_task_in before fields = one_task_of before (get_member (codes "task_id") fields) (get_member (codes "command") fields)

-- ---- the command that is waited for

-- the number of an earlier command that can be awaited
unfoldable pub awaited_in : List Command → Option Data → Result ℕ Cause
awaited_in before None = Err BadField
awaited_in before (Some value) = do
  number ← reference_in (allows uses.Anything) before value
  if is_at can_be_awaited before number then Ok number else Err NotWaitable
