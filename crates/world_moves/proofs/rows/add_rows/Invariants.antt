use Rattle.std.proofs.Common.{◌≡◌, ◌++◌, take}
use Rattle.tasks_api.specs.Lists.{shown}
use Rattle.world_moves.proofs.rows.add_rows.Given as goal

abbrev pub invariant-loop-row : goal.invariant-loop-row
invariant-loop-row l = l.found.items ≡ l.initial.found.items ++ shown l.wanted (take l.row-index l.rows)
