-- No slot before this one holds the task.
use Rattle.std.proofs.Common.{ℕ, ◌<◌, get_or, None}
use Rattle.node_boards.specs.Plain.{IsTask}
use Rattle.node_boards.proofs.plain_rows.find_task.Given as goal

abbrev pub invariant-loop-i : goal.invariant-loop-i
invariant-loop-i l = (k : ℕ) → k < l.i → ¬ IsTask l.number (get_or l.slots k None)
