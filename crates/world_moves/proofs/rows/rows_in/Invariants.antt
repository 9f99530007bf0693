use Rattle.std.proofs.Common.{◌≡◌, take}
use Rattle.std.specs.List.{flat_map}
use Rattle.tasks_api.specs.Lists.{shown}
use Rattle.world_moves.proofs.rows.rows_in.Given as goal

abbrev pub invariant-loop-table : goal.invariant-loop-table
invariant-loop-table l = l.found.items ≡ flat_map (λ table. shown l.wanted table.live) (take l.table-index l.tables)
