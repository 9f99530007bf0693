use Rattle.std.proofs.Common.{◌≡◌, ◌-◌, drop}
use Rattle.task_events.specs.QueryTask.{ascend}
use Rattle.search_phase.proofs.possible.is_ascending.Given as goal

abbrev pub invariant-loop-place : goal.invariant-loop-place
invariant-loop-place l = ascend l.keys ≡ ascend (drop (l.place - 1) l.keys)
