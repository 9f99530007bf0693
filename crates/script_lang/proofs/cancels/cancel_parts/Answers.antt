use Rattle.std.proofs.Common.{codes, sym, ap, ◌∙◌, refl}
use Rattle.std.proofs.lemmas.Result.{err_from_is_err_and}
use Rattle.script_lang.specs.Commands.{cancel_in}
use Rattle.script_lang.specs.Fields.{both, text_or, flag_or_false}
use Rattle.script_lang.specs.Seen.{target_seen}
use Rattle.script_lang.proofs.FieldLemmas.{seen_same, seen_three, seen_ok, seen_err}
use Rattle.script_lang.proofs.cancels.cancel_parts.Goals as goal

pub returns : goal.returns
unfolding cancel_in
returns c =
    rw (← c.in_ok-fields.ensures)
    (seen_ok _ _ _ _ _
    (seen_three target_seen (λ t. t.now) (λ b. b) c.target_in-target.result c.text_or-reason.result c.flag_or_false-wait.result _ _ _
    c.target_in-target.ensures
    (c.text_or-reason.ensures ∙ ap (text_or (codes "by user request")) c.field.ensures)
    (seen_same c.flag_or_false-wait.result ∙ c.flag_or_false-wait.ensures ∙ ap flag_or_false c.field-2.ensures))
    (sym (c.in_ok-target.ensures ∙ ap (both c.target_in-target.result) c.both.ensures)))

pub returns-in_err-target : goal.returns-in_err-target
unfolding cancel_in
returns-in_err-target c =
    let p = err_from_is_err_and c.from_residual-in_err-target.result c.from_residual-in_err-target.ensures.1 in
    rw (← c.in_ok-fields.ensures, p.1, p.2)
    (seen_err _ _ _ _ _
    (seen_three target_seen (λ t. t.now) (λ b. b) c.target_in-target.result c.text_or-reason.result c.flag_or_false-wait.result _ _ _
    c.target_in-target.ensures
    (c.text_or-reason.ensures ∙ ap (text_or (codes "by user request")) c.field.ensures)
    (seen_same c.flag_or_false-wait.result ∙ c.flag_or_false-wait.ensures ∙ ap flag_or_false c.field-2.ensures))
    (sym (c.in_err-target.ensures ∙ ap (both c.target_in-target.result) c.both.ensures)))

pub returns-in_err-fields : goal.returns-in_err-fields
unfolding cancel_in
returns-in_err-fields c =
    let p = err_from_is_err_and c.from_residual.result c.from_residual.ensures.1 in
    rw (← c.in_err-fields.ensures, p.1, p.2) refl
