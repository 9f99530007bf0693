use Rattle.std.proofs.Common.{◌∷◌, [], ◌++◌, ◌∙◌, List, ap, sym, map, take}
use Rattle.std.proofs.lemmas.List.{map_more, take_all}
use Rattle.serde_json.specs.Data.{Data, array, string}
use Rattle.serde_json.specs.View.{items_of}
use Rattle.serde_json.proofs.Views.{view-Array}
use Rattle.task_ids.specs.declared.task_id.TaskId.{TaskId}
use Rattle.task_ids.specs.TaskId.{task_id_text}
use Rattle.line_print.proofs.cancel_lines.ids_value.Goals as goal

abbrev id_json : TaskId → Data
id_json t = string (task_id_text t)

pub loop-task-preserved : goal.loop-task-preserved
loop-task-preserved c =
    c.in_ok-push_id.ensures
    ∙ ap (λ (told : List Data). told ++ id_json c.task-item.result ∷ []) c.loop-task.invariant
    ∙ ap (λ (task : TaskId). map id_json (take c.loop-task.task-index c.args.tasks.now) ++ id_json task ∷ []) c.task-item.is
    ∙ sym (map_more id_json c.args.tasks.now c.loop-task.task-index c.task-item.result c.loop-task-test.true)

pub returns : goal.returns
returns c =
    view-Array c.loop-task.values
    ∙ ap (λ (told : List Data). array (items_of told))
    (c.loop-task.invariant ∙ ap (map id_json) (take_all c.loop-task.task-index c.args.tasks.now c.loop-task-test.false))
