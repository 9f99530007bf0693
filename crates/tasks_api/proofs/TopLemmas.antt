-- Where some ids are those of the rows, a task whose parent is not among the ids is at the top.
use Rattle.std.proofs.Common.{◌≡◌, Bool, false, not, List, [], ◌∷◌, Option, None, Some, filter, cond, refl, sym}
use Rattle.std.specs.List.{list_any}
use Rattle.std.specs.Option.{option_map_or}
use Rattle.task_ids.specs.declared.task_id.TaskId.{TaskId}
use Rattle.task_ids.specs.declared.task_info.TaskInfo.{TaskInfo}
use Rattle.tasks_api.specs.Filters.{is_task, is_child_of}
use Rattle.tasks_api.specs.Lists.{is_top}

none_any : (rows : List TaskInfo) → list_any (λ other. is_child_of other.id None) rows ≡ false
none_any [] = refl
none_any (row ∷ rows) = none_any rows

one_parent : (has : TaskId → Bool) (rows : List TaskInfo) (parent : Option TaskId) → ((t : TaskId) → has t ≡ list_any (λ row. is_task t row.id) rows)
    → option_map_or has parent false ≡ list_any (λ other. is_child_of other.id parent) rows
one_parent has rows None h = sym (none_any rows)
one_parent has rows (Some t) h = h t

pub tops_are : (has : TaskId → Bool) (all rows : List TaskInfo) → ((t : TaskId) → has t ≡ list_any (λ row. is_task t row.id) all)
    → filter (λ row. not (option_map_or has row.parent false)) rows ≡ filter (λ row. is_top all row) rows
tops_are has all [] h = refl
tops_are has all (row ∷ rows) h = λ i. cond (not (one_parent has all row.parent h i)) (row ∷ tops_are has all rows h i) (tops_are has all rows h i)
