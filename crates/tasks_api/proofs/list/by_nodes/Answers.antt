use Rattle.std.proofs.Common.{◌≡◌, [], IfOk, nat_eq, map, subst, arith}
use Rattle.serde_json.specs.View.{view, members_view}
use Rattle.tasks_api.specs.Groups.{group_in}
use Rattle.tasks_api.specs.Lists.{task_json}
use Rattle.tasks_api.proofs.ListLemmas.{nodes_more, nodes_are}
use Rattle.tasks_api.proofs.list.by_nodes.Goals as goal

pub loop-node-preserved : goal.loop-node-preserved
loop-node-preserved c =
    nodes_more (task_json c.args.look.detailed c.args.look.now []) (map (λ row. row.now) c.args.rows.now) (group_in (nat_eq c.loop-node.node) c.in_ok-groups.groups) _ _ c.loop-node.node
    (omega arith) (c.in_ok-groups.ensures c.loop-node.node) c.loop-node.invariant c.in_ok-put_node.ensures

pub returns : goal.returns
returns c = subst (λ json. IfOk c.one_member.result (λ value. view value ≡ json))
    (nodes_are (task_json c.args.look.detailed c.args.look.now) (map (λ row. row.now) c.args.rows.now) (members_view c.loop-node.nodes.entries) c.loop-node.node (view c.object_value.result)
    (omega arith) c.loop-node.invariant c.object_value.ensures)
    c.one_member.ensures
