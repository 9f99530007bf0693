use Rattle.std.proofs.Common.{◌≡◌, ◌-◌, [], map}
use Rattle.serde_json.specs.View.{members_view}
use Rattle.tasks_api.specs.Lists.{task_json}
use Rattle.tasks_api.proofs.ListLemmas.{first_nodes}
use Rattle.tasks_api.proofs.list.by_nodes.Given as goal

abbrev pub invariant-loop-node : goal.invariant-loop-node
invariant-loop-node l = members_view l.nodes.entries ≡ first_nodes (task_json l.look.detailed l.look.now []) (map (λ row. row.now) l.rows) (l.node - 1)
