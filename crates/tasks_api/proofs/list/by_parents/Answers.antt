use Rattle.std.proofs.Common.{◌≡◌, IfOk, map, subst, ap, ◌∙◌, length}
use Rattle.std.proofs.lemmas.List.{length-map}
use Rattle.serde_json.specs.View.{view}
use Rattle.tasks_api.specs.Filters.{is_task}
use Rattle.tasks_api.specs.Groups.{group_in}
use Rattle.tasks_api.specs.Lists.{task_json, tree_json, by_id}
use Rattle.tasks_api.proofs.ListLemmas.{parents_are}
use Rattle.tasks_api.proofs.list.by_parents.Goals as goal

pub returns : goal.returns
returns c =
    let rows = map (λ row. row.now) c.args.rows.now in
    let look = task_json c.args.look.detailed c.args.look.now in
    subst (λ json. IfOk c.one_member.result (λ value. view value ≡ json))
    (parents_are look (λ t. group_in (is_task t) c.in_ok-below.below) rows (map (λ row. row.now) c.in_ok-tops.tops.items) (length c.args.rows.now) (view c.in_ok-tasks.tasks) c.in_ok-below.ensures c.in_ok-tops.ensures
    (simp length-map) (c.in_ok-tasks.ensures ∙ ap (λ tops. by_id (tree_json look (λ t. group_in (is_task t) c.in_ok-below.below) (length c.args.rows.now)) (map (λ row. row.now) tops)) c.as_slice.ensures.value))
    c.one_member.ensures
