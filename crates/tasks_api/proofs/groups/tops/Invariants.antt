use Rattle.std.proofs.Common.{◌≡◌, false, not, map, filter, take}
use Rattle.std.specs.HashSet as bag
use Rattle.std.specs.Option.{option_map_or}
use Rattle.tasks_api.specs.Filters.{is_task}
use Rattle.tasks_api.proofs.groups.tops.Given as goal

abbrev pub invariant-loop-row : goal.invariant-loop-row
invariant-loop-row l =
    map (λ row. row.now) l.tops.items ≡ filter (λ row. not (option_map_or (λ t. bag.contains is_task l.ids t) row.parent false)) (map (λ row. row.now) (take l.row-index l.rows))
