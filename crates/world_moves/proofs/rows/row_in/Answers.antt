use Rattle.std.proofs.Common.{◌∙◌, find, ap, sym}
use Rattle.std.specs.Option.{option_or, option_copied}
use Rattle.std.proofs.lemmas.List.Folds.{find-append}
use Rattle.task_ids.specs.declared.task_info.TaskInfo.{TaskInfo}
use Rattle.tasks_api.specs.Filters.{is_task}
use Rattle.world_moves.proofs.rows.row_in.Goals as goal

pub returns-in-Some : goal.returns-in-Some
returns-in-Some c =
    let is_it = λ (row : TaskInfo). is_task c.args.task row.id in
    ap (λ o. option_or o (find is_it c.live.result.1.now)) (sym (ap option_copied c.in-Some.is) ∙ c.row_among.ensures)
    ∙ sym (find-append is_it c.live.result.0.now c.live.result.1.now) ∙ ap (find is_it) c.live.ensures.live

pub returns-in-None : goal.returns-in-None
returns-in-None c =
    let is_it = λ (row : TaskInfo). is_task c.args.task row.id in
    c.row_among-in-None.ensures ∙ ap (λ o. option_or o (find is_it c.live.result.1.now)) (sym (ap option_copied c.in-None.is) ∙ c.row_among.ensures)
    ∙ sym (find-append is_it c.live.result.0.now c.live.result.1.now) ∙ ap (find is_it) c.live.ensures.live
