use Rattle.std.proofs.Common.{ap, ◌∙◌}
use Rattle.serde_json.specs.Data.{no_members, put}
use Rattle.serde_json.specs.View.{members_view}
use Rattle.task_ids.specs.TaskId.{task_id_text}
use Rattle.tasks_api.specs.Filters.{is_task}
use Rattle.tasks_api.specs.Groups.{group_in}
use Rattle.tasks_api.specs.Lists.{task_json, tree_json}
use Rattle.tasks_api.proofs.Looping.{one_put}
use Rattle.tasks_api.proofs.tree.by_id.Goals as goal

pub loop-row-preserved : goal.loop-row-preserved
loop-row-preserved c = one_put (λ row. task_id_text row.id) (λ row. tree_json (task_json c.args.look.detailed c.args.look.now) (λ u. group_in (is_task u) c.args.below.now) c.args.levels row) no_members
    c.args.rows.now c.loop-row.row-index c.row-item.result _ _ c.loop-row-test.true c.row-item.is c.loop-row.invariant
    (c.in_ok-put_at_id.ensures ∙ ap (λ tree. put (task_id_text c.row-item.result.now.id) tree (members_view c.loop-row.members.entries)) c.in_ok-value.ensures)
