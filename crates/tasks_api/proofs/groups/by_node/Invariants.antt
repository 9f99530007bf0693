use Rattle.std.proofs.Common.{◌≡◌, ℕ, nat_eq, map, take}
use Rattle.tasks_api.specs.Groups.{group_in}
use Rattle.tasks_api.specs.Lists.{on_node}
use Rattle.tasks_api.proofs.groups.by_node.Given as goal

abbrev pub invariant-loop-row : goal.invariant-loop-row
invariant-loop-row l = (node : ℕ) → group_in (nat_eq node) l.groups ≡ on_node node (map (λ row. row.now) (take l.row-index l.rows))
