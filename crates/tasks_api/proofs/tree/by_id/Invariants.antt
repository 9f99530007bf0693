use Rattle.std.proofs.Common.{◌≡◌, map, take}
use Rattle.serde_json.specs.Data.{no_members}
use Rattle.serde_json.specs.View.{members_view}
use Rattle.task_ids.specs.TaskId.{task_id_text}
use Rattle.tasks_api.specs.Filters.{is_task}
use Rattle.tasks_api.specs.Groups.{group_in}
use Rattle.tasks_api.specs.Objects.{with_each}
use Rattle.tasks_api.specs.Lists.{task_json, tree_json}
use Rattle.tasks_api.proofs.tree.by_id.Given as goal

abbrev pub invariant-loop-row : goal.invariant-loop-row
invariant-loop-row l = members_view l.members.entries
    ≡ with_each (λ row. task_id_text row.id) (λ row. tree_json (task_json l.look.detailed l.look.now) (λ t. group_in (is_task t) l.below) l.levels row) no_members (map (λ row. row.now) (take l.row-index l.rows))
