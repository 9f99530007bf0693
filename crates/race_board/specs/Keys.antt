-- Parents as keys.
use Rattle.std.specs.Prelude.{ℕ, ◌+◌, ◌*◌, ◌==◌, cond, Option, Some, None}
use Rattle.task_ids.specs.declared.task_id.TaskId.{TaskId}
use Rattle.race_board.specs.Words.{cancel}

-- the key of a task: its node and its number
unfoldable pub task_key : TaskId → ℕ
task_key t = t.number + 1048576 * t.node

-- a root's parent is 0
abbrev pub parent_key : Option TaskId → ℕ
parent_key None = 0
parent_key (Some t) = task_key t

-- the mark in a task word
abbrev pub mark_in : ℕ → Option ℕ
mark_in w = cond (cancel w == 0) None (Some (cancel w))
