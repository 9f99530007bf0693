use Rattle.task_table.proofs.Kept.{IsTable-without_task}
use Rattle.task_table.proofs.table.TaskTable.end.Goals as goal

pub invariant_of-self : goal.invariant_of-self
invariant_of-self c = rw c.take_row-mark.ensures.rows (IsTable-without_task _ _ c.self.invariant)
