use Rattle.std.proofs.Common.{sym, ap, ◌∙◌, refl}
use Rattle.std.proofs.lemmas.Result.{err_from_is_err_and}
use Rattle.script_lang.specs.Commands.{list_in}
use Rattle.script_lang.specs.Fields.{both, group_or_nodes, flag_or_false}
use Rattle.script_lang.specs.Seen.{filter_seen}
use Rattle.script_lang.proofs.FieldLemmas.{seen_same, seen_three, seen_ok, seen_err}
use Rattle.script_lang.proofs.lists.list_parts.Goals as goal

pub returns : goal.returns
unfolding list_in
returns c =
    rw (← c.in_ok-fields.ensures)
    (seen_ok _ _ _ _ _
    (seen_three filter_seen (λ g. g) (λ b. b) c.filter_parts-filter.result c.group_or_nodes-group.result c.flag_or_false-detailed.result _ _ _
    c.filter_parts-filter.ensures
    (seen_same c.group_or_nodes-group.result ∙ c.group_or_nodes-group.ensures ∙ ap group_or_nodes c.field.ensures)
    (seen_same c.flag_or_false-detailed.result ∙ c.flag_or_false-detailed.ensures ∙ ap flag_or_false c.field-2.ensures))
    (sym (c.in_ok-filter.ensures ∙ ap (both c.filter_parts-filter.result) c.both.ensures)))

pub returns-in_err-filter : goal.returns-in_err-filter
unfolding list_in
returns-in_err-filter c =
    let p = err_from_is_err_and c.from_residual-in_err-filter.result c.from_residual-in_err-filter.ensures.1 in
    rw (← c.in_ok-fields.ensures, p.1, p.2)
    (seen_err _ _ _ _ _
    (seen_three filter_seen (λ g. g) (λ b. b) c.filter_parts-filter.result c.group_or_nodes-group.result c.flag_or_false-detailed.result _ _ _
    c.filter_parts-filter.ensures
    (seen_same c.group_or_nodes-group.result ∙ c.group_or_nodes-group.ensures ∙ ap group_or_nodes c.field.ensures)
    (seen_same c.flag_or_false-detailed.result ∙ c.flag_or_false-detailed.ensures ∙ ap flag_or_false c.field-2.ensures))
    (sym (c.in_err-filter.ensures ∙ ap (both c.filter_parts-filter.result) c.both.ensures)))

pub returns-in_err-fields : goal.returns-in_err-fields
unfolding list_in
returns-in_err-fields c =
    let p = err_from_is_err_and c.from_residual.result c.from_residual.ensures.1 in
    rw (← c.in_err-fields.ensures, p.1, p.2) refl
