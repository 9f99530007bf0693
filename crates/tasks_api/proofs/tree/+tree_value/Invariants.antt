use Rattle.std.proofs.Common.{◌≡◌, map, take}
use Rattle.serde_json.specs.View.{view}
use Rattle.tasks_api.specs.Filters.{is_task}
use Rattle.tasks_api.specs.Groups.{group_in}
use Rattle.tasks_api.specs.Lists.{task_json, tree_json}
use Rattle.tasks_api.proofs.tree.+tree_value.Given as goal

abbrev pub decreases-tree_value : goal.decreases-tree_value
decreases-tree_value l = l.levels

abbrev pub invariant-loop-child : goal.invariant-loop-child
invariant-loop-child l =
    map view l.children.items ≡ map (λ child. tree_json (task_json l.look.detailed l.look.now) (λ t. group_in (is_task t) l.below) l.deeper child) (map (λ row. row.now) (take l.child-index l.child-items))
