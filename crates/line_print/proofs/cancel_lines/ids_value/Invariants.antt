use Rattle.std.proofs.Common.{◌≡◌, map, take}
use Rattle.serde_json.specs.Data.{string}
use Rattle.serde_json.specs.View.{view}
use Rattle.task_ids.specs.TaskId.{task_id_text}
use Rattle.line_print.proofs.cancel_lines.ids_value.Given as goal

abbrev pub invariant-loop-task : goal.invariant-loop-task
invariant-loop-task l = map view l.values.items ≡ map (λ t. string (task_id_text t)) (take l.task-index l.tasks)
