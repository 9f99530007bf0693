-- When two things that events name are one.
use Rattle.std.specs.Prelude.{ℕ, Bool, ◌&&◌, ◌==◌}
use Rattle.task_ids.specs.declared.task_id.TaskId.{TaskId}

-- one task: the same node, and the same number there
unfoldable pub same_task : TaskId → TaskId → Bool
same_task t u = (t.node == u.node) && (t.number == u.number)

-- one task, and the same number with it: an ask of the task, or a node on which it may have children
unfoldable pub same_pair : TaskId → ℕ → TaskId → ℕ → Bool
same_pair t k u j = same_task t u && (k == j)
