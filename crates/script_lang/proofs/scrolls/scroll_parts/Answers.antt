use Rattle.std.proofs.Common.{option_map, sym, ap, ◌∙◌, refl}
use Rattle.std.proofs.lemmas.Result.{err_from_is_err_and}
use Rattle.script_lang.specs.Commands.{scroll_in}
use Rattle.script_lang.specs.Fields.{both, optional_keep_alive, optional_text}
use Rattle.script_lang.proofs.FieldLemmas.{seen_same, seen_three, seen_ok, seen_err}
use Rattle.script_lang.proofs.scrolls.scroll_parts.Goals as goal

pub returns : goal.returns
unfolding scroll_in
returns c =
    rw (← c.in_ok-fields.ensures)
    (seen_ok _ _ _ _ _
    (seen_three (λ x. x) (λ k. k) (λ t. option_map (λ u. u.now) t) c.context_in-context.result c.optional_keep_alive-keep.result c.optional_text-opaque_id.result _ _ _
    (seen_same c.context_in-context.result ∙ c.context_in-context.ensures)
    (seen_same c.optional_keep_alive-keep.result ∙ c.optional_keep_alive-keep.ensures ∙ ap optional_keep_alive c.field.ensures)
    (c.optional_text-opaque_id.ensures ∙ ap optional_text c.field-2.ensures))
    (sym (c.in_ok-context.ensures ∙ ap (both c.context_in-context.result) c.both.ensures)))

pub returns-in_err-context : goal.returns-in_err-context
unfolding scroll_in
returns-in_err-context c =
    let p = err_from_is_err_and c.from_residual-in_err-context.result c.from_residual-in_err-context.ensures.1 in
    rw (← c.in_ok-fields.ensures, p.1, p.2)
    (seen_err _ _ _ _ _
    (seen_three (λ x. x) (λ k. k) (λ t. option_map (λ u. u.now) t) c.context_in-context.result c.optional_keep_alive-keep.result c.optional_text-opaque_id.result _ _ _
    (seen_same c.context_in-context.result ∙ c.context_in-context.ensures)
    (seen_same c.optional_keep_alive-keep.result ∙ c.optional_keep_alive-keep.ensures ∙ ap optional_keep_alive c.field.ensures)
    (c.optional_text-opaque_id.ensures ∙ ap optional_text c.field-2.ensures))
    (sym (c.in_err-context.ensures ∙ ap (both c.context_in-context.result) c.both.ensures)))

pub returns-in_err-fields : goal.returns-in_err-fields
unfolding scroll_in
returns-in_err-fields c =
    let p = err_from_is_err_and c.from_residual.result c.from_residual.ensures.1 in
    rw (← c.in_err-fields.ensures, p.1, p.2) refl
