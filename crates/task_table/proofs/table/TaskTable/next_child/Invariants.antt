use Rattle.std.proofs.Common.{ℕ, ◌<◌, get_or}
use Rattle.task_ids.specs.declared.task_info.TaskInfo.{TaskInfo}
use Rattle.task_table.specs.Rows.{IsUnmarkedChild}
use Rattle.task_table.proofs.table.TaskTable.next_child.Given as goal

abbrev pub invariant-loop-place : goal.invariant-loop-place
invariant-loop-place l = (k : ℕ) (d : TaskInfo) → k < l.place → IsUnmarkedChild l.parent (get_or l.self.live k d) → ⊥
