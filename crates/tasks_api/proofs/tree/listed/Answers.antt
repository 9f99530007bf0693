use Rattle.std.proofs.Common.{[], ◌∷◌, ◌++◌, map, ap, ◌∙◌}
use Rattle.serde_json.specs.View.{view}
use Rattle.tasks_api.specs.Filters.{is_task}
use Rattle.tasks_api.specs.Groups.{group_in}
use Rattle.tasks_api.specs.Lists.{task_json, tree_json}
use Rattle.tasks_api.proofs.Looping.{one_more}
use Rattle.tasks_api.proofs.tree.listed.Goals as goal

pub loop-row-preserved : goal.loop-row-preserved
loop-row-preserved c = one_more (λ row. tree_json (task_json c.args.look.detailed c.args.look.now) (λ u. group_in (is_task u) c.args.below.now) c.args.levels row)
    c.args.rows.now c.loop-row.row-index c.row-item.result _ _ c.loop-row-test.true c.row-item.is c.loop-row.invariant
    (c.in_ok-push_value.ensures ∙ ap (λ tree. map view c.loop-row.values.items ++ tree ∷ []) c.in_ok-tree.ensures)
