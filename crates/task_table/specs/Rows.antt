-- The rows of live tasks.
use Rattle.std.specs.Prelude.{◌≡◌, ℕ, ◌<◌, ◌==◌, List, Bool, Option, None, Some, AllPairs, find, filter, not, option_and_then, if◌then◌else◌}
use Rattle.task_ids.specs.declared.task_id.TaskId.{TaskId}
use Rattle.task_ids.specs.declared.task_info.NewTask.{NewTask}
use Rattle.task_ids.specs.declared.task_info.TaskInfo.{TaskInfo}

-- the row of a new task under the id that it is given
abbrev pub row_for : TaskId → NewTask → TaskInfo
row_for id task = record {
  id = id;
  action = task.action;
  description = task.description;
  start_ms = task.start_ms;
  parent = task.parent;
  headers = task.headers;
  cancelled = None;
}

-- by ascending number
abbrev pub IsAscending : List TaskInfo → Type 0
IsAscending rows = AllPairs (λ a b. a.id.number < b.id.number) rows

abbrev pub has_number : ℕ → TaskInfo → Bool
has_number number row = row.id.number == number

-- the first row of a number, and there is no other where rows ascend
abbrev pub row_among : ℕ → List TaskInfo → Option TaskInfo
row_among number rows = find (has_number number) rows

abbrev pub mark_among : ℕ → List TaskInfo → Option ℕ
mark_among number rows = option_and_then (λ row. row.cancelled) (row_among number rows)

abbrev pub without_number : ℕ → List TaskInfo → List TaskInfo
without_number number rows = filter (λ row. not (has_number number row)) rows

abbrev pub marked : ℕ → ℕ → TaskInfo → TaskInfo
marked number cancel row = if has_number number row then record row { cancelled = Some cancel } else row

abbrev pub IsUnmarkedChild : TaskId → TaskInfo → Type 0
IsUnmarkedChild parent row = (row.parent ≡ Some parent) × (row.cancelled ≡ None)
