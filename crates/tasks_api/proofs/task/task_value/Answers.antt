use Rattle.std.proofs.Common.{◌∙◌, map, ap}
use Rattle.serde_json.specs.View.{view, members_view}
use Rattle.tasks_api.specs.Lists.{state_part, children_part, description_part, place_part, parent_part, start_part}
use Rattle.tasks_api.proofs.TaskParts.{part_by_part}
use Rattle.tasks_api.proofs.task.task_value.Goals as goal

pub returns : goal.returns
returns c =
    let row = c.args.row.now in
    c.object_value.ensures ∙ part_by_part _ _ _ _ _ _ _
    (state_part row) (children_part (map view c.args.children.items)) (description_part c.args.look.detailed row.description) (place_part row) (parent_part row.parent) (start_part c.args.look.now row)
    (ap members_view c.new-members.ensures.empty)
    c.in_ok-put_state.ensures c.in_ok-put_children.ensures c.in_ok-put_description.ensures c.in_ok-put_place.ensures c.in_ok-put_parent.ensures c.in_ok-put_start.ensures
