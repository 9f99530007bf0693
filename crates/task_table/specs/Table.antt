-- What contracts see of a table.
use Rattle.std.specs.Prelude.{◌≡◌, ℕ, ◌≤◌, List, ◌∷◌, [], ◌++◌, length, Option, All, Any, map}
use Rattle.task_ids.specs.Limits.{IsNode}
use Rattle.task_ids.specs.declared.task_id.TaskId.{TaskId}
use Rattle.task_ids.specs.declared.task_info.NewTask.{NewTask}
use Rattle.task_ids.specs.declared.task_info.TaskInfo.{TaskInfo}
use Rattle.task_table.specs.Rows.{row_for, IsAscending, row_among, mark_among, without_number, marked}

-- its node, how many tasks may live at once, the number given last (0: none), and the live tasks by ascending number
pub record Table : Type 0 where
  pub node : ℕ
  pub slots : ℕ
  pub last : ℕ
  pub live : List TaskInfo

-- what every table keeps
pub record IsTable (table : Table) : Type 0 where
  pub node_in_range : IsNode table.node
  pub last_in_range : table.last ≤ 1048575
  pub in_slots : length table.live ≤ table.slots
  pub ascending : IsAscending table.live
  pub given : All (λ row. row.id.number ≤ table.last) table.live
  pub of_node : All (λ row. row.id.node ≡ table.node) table.live

abbrev pub new_table : ℕ → ℕ → Table
new_table node slots = record { node = node; slots = slots; last = 0; live = [] }

abbrev pub with_task : Table → TaskId → NewTask → Table
with_task table id task = record table { last = id.number; live = table.live ++ row_for id task ∷ [] }

abbrev pub without_task : Table → ℕ → Table
without_task table number = record table { live = without_number number table.live }

abbrev pub with_mark : Table → ℕ → ℕ → Table
with_mark table number cancel = record table { live = map (marked number cancel) table.live }

-- the live task of a number
abbrev pub row_of : ℕ → Table → Option TaskInfo
row_of number table = row_among number table.live

abbrev pub IsLive : Table → TaskId → Type 0
IsLive table id = Any (λ row. row.id ≡ id) table.live

-- the mark of a live task
abbrev pub mark_of : ℕ → Table → Option ℕ
mark_of number table = mark_among number table.live
