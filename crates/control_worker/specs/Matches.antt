-- What a control worker does with the tasks that a filter lets through.
use Rattle.std.specs.Prelude.{◌≡◌, ℕ, Bool, cond, List, [], ◌∷◌, ◌++◌, map, filter, IsPermutation, IsSorted}
use Rattle.task_ids.specs.declared.task_id.TaskId.{TaskId}
use Rattle.task_ids.specs.TaskIdOrder.{task_id_cmp}
use Rattle.task_ids.specs.declared.task_info.TaskInfo.{TaskInfo}
use Rattle.cancel_core.specs.declared.act.Waiter.{Waiter}
use Rattle.node_boards.specs.Calls.{ControlCall}
use Rattle.control_worker.specs.declared.act.ControlAct.TheVariants as act
use Rattle.control_worker.specs.Steps.{Step, Then, Each, Gives, Moment, Makes}
use Rattle.control_worker.specs.Cancels.{Seeks}

-- a task, and whether it was found
pub record Tried : Type 0 where
  pub task : TaskId
  pub is_found : Bool

abbrev pub tasks_of : List Tried → List TaskId
tasks_of tried = map (λ (t : Tried). t.task) tried

abbrev pub found_of : List Tried → List TaskId
found_of tried = tasks_of (filter (λ (t : Tried). t.is_found) tried)

abbrev pub ids_of : List TaskInfo → List TaskId
ids_of rows = map (λ (row : TaskInfo). row.id) rows

-- as by a cancel by id
abbrev pub Tries : Waiter → Tried → Step
Tries waiter tried = Seeks tried.task waiter tried.is_found

-- a task is cancelled, and added to those that are found, if it is
unfoldable pub SeeksOne : {B : Type 0} → (B → B → ControlCall → Type 0) → Waiter → TaskId → List TaskId → List TaskId → Moment B → Moment B → Type 0
SeeksOne rests waiter task old new s t = (is_found : Bool) × (new ≡ old ++ cond is_found (task ∷ []) []) × Makes rests (Seeks task waiter is_found) s t

-- each row's task is cancelled, and these are found
unfoldable pub SeeksEach : {B : Type 0} → (B → B → ControlCall → Type 0) → Waiter → List TaskInfo → List TaskId → Moment B → Moment B → Type 0
SeeksEach rests waiter rows found s t = (tried : List Tried) × (tasks_of tried ≡ ids_of rows) × (found_of tried ≡ found) × Makes rests (Each (Tries waiter) tried) s t

-- the tasks that were found are named, ascending
unfoldable pub Names : ℕ → List TaskId → Step
Names cancel found v calls acts w = (named : List TaskId) × IsPermutation found named × IsSorted task_id_cmp named
    × Gives (act.Named v.node cancel named) v calls acts w

-- each row's task is cancelled, and then those that were found are named
unfoldable pub Matches : Waiter → List TaskInfo → Step
Matches waiter rows v calls acts w = (tried : List Tried) × (tasks_of tried ≡ ids_of rows)
    × Then (Each (Tries waiter) tried) (Names waiter.cancel (found_of tried)) v calls acts w
