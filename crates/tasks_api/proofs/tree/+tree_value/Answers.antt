use Rattle.std.proofs.Common.{◌≡◌, [], ◌∷◌, ◌++◌, IfOk, map, subst, ap, ◌∙◌, arith}
use Rattle.serde_json.specs.View.{view}
use Rattle.std.proofs.lemmas.Grind.{common_steps}
use Rattle.tasks_api.specs.Filters.{is_task}
use Rattle.tasks_api.specs.Groups.{group_in}
use Rattle.tasks_api.specs.Lists.{task_json, tree_json}
use Rattle.tasks_api.proofs.Looping.{one_more}
use Rattle.tasks_api.proofs.TreeLemmas.{leaf, tree}
use Rattle.tasks_api.proofs.tree.+tree_value.Goals as goal

pub loop-child-preserved : goal.loop-child-preserved
loop-child-preserved t c = one_more (λ child. tree_json (task_json c.args.look.detailed c.args.look.now) (λ u. group_in (is_task u) c.args.below.now) c.in-Some.deeper child)
    c.deref-child-items.result.now c.loop-child.child-index c.child-item.result _ _ c.loop-child-test.true c.child-item.is c.loop-child.invariant
    (c.in_ok-push_value.ensures ∙ ap (λ tree. map view c.loop-child.children.items ++ tree ∷ []) c.in_ok-tree.ensures)

pub returns-in_default-get : goal.returns-in_default-get
returns-in_default-get t c = subst (λ j. IfOk c.task_value-in_default-get.result (λ value. view value ≡ j))
    (leaf (task_json c.args.look.detailed c.args.look.now) (λ u. group_in (is_task u) c.args.below.now) c.args.levels c.args.row.now (grind (arith, common_steps)))
    (subst (λ values. IfOk c.task_value-in_default-get.result (λ value. view value ≡ task_json c.args.look.detailed c.args.look.now (map view values) c.args.row.now)) c.new-in_default-get.ensures.items c.task_value-in_default-get.ensures)

pub returns : goal.returns
returns t c = subst (λ j. IfOk c.task_value-2.result (λ value. view value ≡ j))
    (tree (task_json c.args.look.detailed c.args.look.now) (λ u. group_in (is_task u) c.args.below.now) c.args.levels c.in-Some.deeper c.args.row.now (map (λ row. row.now) c.in-Some-get.rows.now.items) (map view c.loop-child.children.items)
    (omega (arith, c.in-Some.ensures)) (grind (arith, common_steps)) (grind (arith, common_steps)))
    c.task_value-2.ensures
