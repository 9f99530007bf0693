-- What holds of the commands of a script: they are of a cluster, and name one another.
use Rattle.std.specs.Prelude.{◌≡◌, ℕ, ◌≤◌, List, [], ◌∷◌, ◌++◌, true, Option}
use Rattle.std.specs.Option.{ForSome}
use Rattle.script_lang.specs.declared.command.CancelTarget.{CancelTarget}
use Rattle.script_lang.specs.declared.command.CancelTarget.TheVariants as targets
use Rattle.script_lang.specs.declared.command.Command.{Command}
use Rattle.script_lang.specs.declared.command.Command.TheVariants.{Search, Scroll, ClearScroll, Reindex, Cancel, ListTasks, GetTask, ForgetTask, ListResults, Tick, Deliver, Step, ListStep, Settle, Shuffle, WaitFor, History, Summary}
use Rattle.script_lang.specs.declared.command.ContextTarget.{ContextTarget}
use Rattle.script_lang.specs.declared.command.ContextTarget.TheVariants as contexts
use Rattle.script_lang.specs.declared.command.TaskTarget.{TaskTarget}
use Rattle.script_lang.specs.declared.command.TaskTarget.TheVariants as tasks
use Rattle.script_lang.specs.Fields.{max_slices, max_rate, max_moves}
use Rattle.script_lang.specs.KeepAlives.{day_ms}
use Rattle.script_lang.specs.Targets.{starts_task, opens_context, can_be_awaited, is_at}

-- a node of a cluster of so many
abbrev pub IsNodeOf : ℕ → ℕ → Type 0
IsNodeOf nodes node = (1 ≤ node) × (node ≤ nodes)

-- a number of slices of a reindex
abbrev pub IsSliceCount : ℕ → Type 0
IsSliceCount slices = (1 ≤ slices) × (slices ≤ max_slices)

-- how many documents a reindex writes in a second at most, where that is bounded
abbrev pub IsRate : Option ℕ → Type 0
IsRate rate = ForSome rate (λ r. (1 ≤ r) × (r ≤ max_rate))

-- a command that is named comes before and starts a task
abbrev pub NamesStart : List Command → CancelTarget → Type 0
NamesStart before (targets.Task id) = Unit {0}
NamesStart before (targets.Matching filter) = Unit {0}
NamesStart before (targets.Command number) = is_at starts_task before number ≡ true

-- a command that is named comes before and is a search with a keep-alive
abbrev pub NamesContext : List Command → ContextTarget → Type 0
NamesContext before (contexts.Id id) = Unit {0}
NamesContext before (contexts.Command number) = is_at opens_context before number ≡ true

-- a command that is named comes before and starts a task
abbrev pub NamesTask : List Command → TaskTarget → Type 0
NamesTask before (tasks.Id id) = Unit {0}
NamesTask before (tasks.Command number) = is_at starts_task before number ≡ true

-- a command after others, on a cluster of so many nodes
abbrev pub Fits : ℕ → List Command → Command → Type 0
Fits nodes before (Search index node scroll body opaque_id) = IsNodeOf nodes node
Fits nodes before (Scroll context keep opaque_id) = NamesContext before context
Fits nodes before (ClearScroll context) = NamesContext before context
Fits nodes before (Reindex node body slices rate opaque_id store) = IsNodeOf nodes node × IsSliceCount slices × IsRate rate
Fits nodes before (Cancel target reason wait) = NamesStart before target
Fits nodes before (ListTasks filter group detailed) = Unit {0}
Fits nodes before (GetTask task wait) = NamesTask before task
Fits nodes before (ForgetTask task) = NamesTask before task
Fits nodes before ListResults = Unit {0}
Fits nodes before (Tick ms) = ms ≤ day_ms
Fits nodes before (Deliver nth) = Unit {0}
Fits nodes before (Step task) = Unit {0}
Fits nodes before (ListStep node parent) = IsNodeOf nodes node
Fits nodes before Settle = Unit {0}
Fits nodes before (Shuffle seed moves) = moves ≤ max_moves
Fits nodes before (WaitFor command) = is_at can_be_awaited before command ≡ true
Fits nodes before History = Unit {0}
Fits nodes before Summary = Unit {0}

-- each of some commands fits, after others and those before it
abbrev pub AllFit : ℕ → List Command → List Command → Type 0
AllFit nodes before [] = Unit {0}
AllFit nodes before (command ∷ rest) = Fits nodes before command × AllFit nodes (before ++ command ∷ []) rest
