-- How task ids and nodes are written.
use Rattle.std.specs.Prelude.{ℕ, List, ◌∷◌, ◌++◌, decimal}
use Rattle.task_ids.specs.declared.task_id.TaskId.{TaskId}

-- `n`, the node, a colon and the number
abbrev pub task_id_text : TaskId → List ℕ
task_id_text t = 110 ∷ decimal t.node ++ 58 ∷ decimal t.number

-- a node's name
abbrev pub node_name : ℕ → List ℕ
node_name node = 110 ∷ decimal node
