use Rattle.std.proofs.Common.{◌≡◌, map, take}
use Rattle.std.specs.HashSet as bag
use Rattle.std.specs.List.{list_any}
use Rattle.task_ids.specs.declared.task_id.TaskId.{TaskId}
use Rattle.tasks_api.specs.Filters.{is_task}
use Rattle.tasks_api.proofs.groups.ids_of.Given as goal

abbrev pub invariant-loop-row : goal.invariant-loop-row
invariant-loop-row l = (t : TaskId) → bag.contains is_task l.ids t ≡ list_any (λ row. is_task t row.id) (map (λ row. row.now) (take l.row-index l.rows))
