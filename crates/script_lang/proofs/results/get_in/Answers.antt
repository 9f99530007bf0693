use Rattle.std.proofs.Common.{sym, ap, ◌∙◌, refl}
use Rattle.std.proofs.lemmas.Result.{err_from_is_err_and}
use Rattle.script_lang.specs.Commands.{get_in}
use Rattle.script_lang.specs.Fields.{flag_or_false}
use Rattle.script_lang.proofs.FieldLemmas.{seen_same, seen_pair, seen_ok, seen_err}
use Rattle.script_lang.proofs.results.get_in.Goals as goal

pub returns : goal.returns
unfolding get_in
returns c =
    rw (← c.in_ok-fields.ensures)
    (seen_ok _ _ _ _ _
    (seen_pair (λ t. t) (λ b. b) c.one_task_in-task.result c.flag_or_false-wait.result _ _
    (seen_same c.one_task_in-task.result ∙ c.one_task_in-task.ensures)
    (seen_same c.flag_or_false-wait.result ∙ c.flag_or_false-wait.ensures ∙ ap flag_or_false c.field.ensures))
    (sym c.in_ok-task.ensures))

pub returns-in_err-task : goal.returns-in_err-task
unfolding get_in
returns-in_err-task c =
    let p = err_from_is_err_and c.from_residual-in_err-task.result c.from_residual-in_err-task.ensures.1 in
    rw (← c.in_ok-fields.ensures, p.1, p.2)
    (seen_err _ _ _ _ _
    (seen_pair (λ t. t) (λ b. b) c.one_task_in-task.result c.flag_or_false-wait.result _ _
    (seen_same c.one_task_in-task.result ∙ c.one_task_in-task.ensures)
    (seen_same c.flag_or_false-wait.result ∙ c.flag_or_false-wait.ensures ∙ ap flag_or_false c.field.ensures))
    (sym c.in_err-task.ensures))

pub returns-in_err-fields : goal.returns-in_err-fields
unfolding get_in
returns-in_err-fields c =
    let p = err_from_is_err_and c.from_residual.result c.from_residual.ensures.1 in
    rw (← c.in_err-fields.ensures, p.1, p.2) refl
