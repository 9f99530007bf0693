-- The cursors that were left at a point in time, as the tree keeps them.
use Rattle.std.proofs.Common.{◌≡◌, List, Option, sym, ap, ◌∙◌}
use Rattle.std.specs.FinMap.{FinMap, get, empty, from_entries}
use Rattle.std.specs.Option.{unwrap_or}
use Rattle.task_ids.proofs.TaskIdKeys.{get_id, value_at}
use Rattle.task_ids.specs.TaskIdOrder.{task_id_cmp}
use Rattle.task_ids.specs.declared.task_id.TaskId.{TaskId}
use Rattle.point_in_time.specs.declared.cursors.Cursor.{Cursor}
use Rattle.point_in_time.specs.Pits.{CursorsOfAll, cursors_at}

-- what the tree keeps of a point in time, or nothing
pub cursors_are : (es : List (TaskId × FinMap task_id_cmp Cursor)) (m : CursorsOfAll) (id : TaskId) (o : Option (FinMap task_id_cmp Cursor)) → from_entries es ≡ m → value_at es id ≡ o → cursors_at id m ≡ unwrap_or o empty
cursors_are es m id o view is = ap (λ x. unwrap_or x empty) (ap (λ x. get x id) (sym view) ∙ get_id es id ∙ is)
