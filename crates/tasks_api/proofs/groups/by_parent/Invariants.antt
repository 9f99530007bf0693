use Rattle.std.proofs.Common.{◌≡◌, map, take}
use Rattle.task_ids.specs.declared.task_id.TaskId.{TaskId}
use Rattle.tasks_api.specs.Filters.{is_task}
use Rattle.tasks_api.specs.Groups.{group_in}
use Rattle.tasks_api.specs.Lists.{children_of}
use Rattle.tasks_api.proofs.groups.by_parent.Given as goal

abbrev pub invariant-loop-row : goal.invariant-loop-row
invariant-loop-row l = (t : TaskId) → group_in (is_task t) l.below ≡ children_of (map (λ row. row.now) (take l.row-index l.rows)) t
