use Rattle.std.proofs.Common.{◌≡◌, take}
use Rattle.task_table.proofs.table.TaskTable.rows.Given as goal

abbrev pub invariant-loop-place : goal.invariant-loop-place
invariant-loop-place l = l.rows.items ≡ take l.place l.self.live
