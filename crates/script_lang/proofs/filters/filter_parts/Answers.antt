use Rattle.std.proofs.Common.{option_map, sym, ap, ◌∙◌}
use Rattle.std.proofs.lemmas.Result.{err_from_is_err_and}
use Rattle.script_lang.specs.Fields.{both, optional_text, optional_task}
use Rattle.script_lang.specs.Filters.{filter_in}
use Rattle.script_lang.proofs.FieldLemmas.{seen_same, seen_three, seen_ok, seen_err}
use Rattle.script_lang.proofs.filters.filter_parts.Goals as goal

pub returns : goal.returns
unfolding filter_in
returns c =
    seen_ok _ _ _ _ _
    (seen_three (λ t. option_map (λ u. u.now) t) (λ t. option_map (λ u. u.now) t) (λ t. t) c.optional_text-actions.result c.optional_text-nodes.result c.optional_task-parent.result _ _ _
    (c.optional_text-actions.ensures ∙ ap optional_text c.field.ensures)
    (c.optional_text-nodes.ensures ∙ ap optional_text c.field-2.ensures)
    (seen_same c.optional_task-parent.result ∙ c.optional_task-parent.ensures ∙ ap optional_task c.field-3.ensures))
    (sym (c.in_ok-actions.ensures ∙ ap (both c.optional_text-actions.result) c.both.ensures))

pub returns-in_err-actions : goal.returns-in_err-actions
unfolding filter_in
returns-in_err-actions c =
    let p = err_from_is_err_and c.from_residual.result c.from_residual.ensures.1 in
    rw (p.1, p.2)
    (seen_err _ _ _ _ _
    (seen_three (λ t. option_map (λ u. u.now) t) (λ t. option_map (λ u. u.now) t) (λ t. t) c.optional_text-actions.result c.optional_text-nodes.result c.optional_task-parent.result _ _ _
    (c.optional_text-actions.ensures ∙ ap optional_text c.field.ensures)
    (c.optional_text-nodes.ensures ∙ ap optional_text c.field-2.ensures)
    (seen_same c.optional_task-parent.result ∙ c.optional_task-parent.ensures ∙ ap optional_task c.field-3.ensures))
    (sym (c.in_err-actions.ensures ∙ ap (both c.optional_text-actions.result) c.both.ensures)))
