use Rattle.std.proofs.Common.{◌≡◌, map, take}
use Rattle.tasks_api.specs.Lists.{shown}
use Rattle.tasks_api.proofs.list.shown.Given as goal

abbrev pub invariant-loop-row : goal.invariant-loop-row
invariant-loop-row l = map (λ row. row.now) l.shown.items ≡ shown l.filter (take l.row-index l.rows)
