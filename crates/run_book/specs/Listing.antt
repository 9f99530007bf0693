-- The rows that a list shows, of those that the data workers told.
use Rattle.std.specs.Prelude.{◌≡◌, ℕ, ◌+◌, ◌-◌, ◌≤◌, nat_le, nat_lt, ◌*◌, ◌&&◌, Bool, true, List, [], ◌∷◌, ◌++◌, length, All, Option, None, Some, option_map, slice_get, if◌then◌else◌}
use Rattle.std.specs.declared.cmp.Ordering.TheVariants.{Less}
use Rattle.std.specs.List.{fold}
use Rattle.std.specs.Ordering.{is_lt}
use Rattle.task_ids.specs.TaskIdOrder.{task_id_cmp}
use Rattle.task_ids.specs.declared.task_id.TaskId.{TaskId}
use Rattle.task_ids.specs.declared.task_info.TaskInfo.{TaskInfo}

-- the id of the last row
abbrev pub last_id : List TaskInfo → Option TaskId
last_id rows = option_map (λ row. row.id) (slice_get rows (length rows - 1))

-- it comes after another, if there is one
abbrev pub is_after : Option TaskId → TaskId → Bool
is_after None id = true
is_after (Some last) id = is_lt (task_id_cmp last id)

-- a row stands in a list at this moment after a row of this id
abbrev pub goes_on : Option TaskId → ℕ → TaskInfo → Bool
goes_on last now row = nat_le row.start_ms now && is_after last row.id

abbrev pub with_row : ℕ → List TaskInfo → TaskInfo → List TaskInfo
with_row now all row = if goes_on (last_id all) now row then all ++ row ∷ [] else all

abbrev pub with_rows : ℕ → List TaskInfo → List TaskInfo → List TaskInfo
with_rows now all rows = fold (with_row now) all rows

-- what a list shows at a moment, of all rows that were told
abbrev pub listed : ℕ → List TaskInfo → List TaskInfo
listed now rows = with_rows now [] rows

-- The number of a data worker among all data workers of so many nodes, each of which has so many. It has one where it is one of them.
abbrev pub part_of : ℕ → ℕ → ℕ → ℕ → Option ℕ
part_of nodes workers node worker = if nat_le 1 node && nat_le node nodes && nat_lt worker workers then Some ((node - 1) * workers + worker) else None

-- Each row stands once, in the order of the ids.
abbrev pub Ascend : List TaskInfo → Type 0
Ascend rows = (i : ℕ) (a b : TaskInfo) → slice_get rows i ≡ Some a → slice_get rows (i + 1) ≡ Some b → task_id_cmp a.id b.id ≡ Less

-- what a list shows at a moment
pub record Shows (rows : List TaskInfo) (now : ℕ) : Type 0 where
  pub ascend : Ascend rows
  pub began : All (λ (row : TaskInfo). row.start_ms ≤ now) rows
