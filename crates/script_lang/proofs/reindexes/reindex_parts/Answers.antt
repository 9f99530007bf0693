use Rattle.std.proofs.Common.{option_map, refl, sym, ap, ◌∙◌}
use Rattle.std.proofs.lemmas.Result.{err_from_is_err_and}
use Rattle.serde_json.specs.View.{view}
use Rattle.script_lang.specs.Commands.{reindex_in}
use Rattle.script_lang.specs.Fields.{both, node_or_first, object_in, slices_or_one, rate_or_none, optional_text, flag_or_false, seen}
use Rattle.script_lang.proofs.FieldLemmas.{seen_same, seen_pair, seen_five, seen_ok, seen_err}
use Rattle.script_lang.proofs.reindexes.reindex_parts.Goals as goal

pub returns : goal.returns
unfolding reindex_in
returns c =
    rw (← c.in_ok-fields.ensures)
    (seen_ok _ _ _ _ _
    (seen_five (λ n. n) (λ v. view v.now) (λ n. n) (λ r. r) (λ p. (option_map (λ u. u.now) p.0, p.1)) c.node_or_first-node.result c.object_in-body.result c.slices_or_one-slices.result c.rate_or_none-rate.result c.both.result _ _ _ _ _
    (seen_same c.node_or_first-node.result ∙ c.node_or_first-node.ensures ∙ ap (node_or_first c.args.nodes) c.field.ensures)
    (c.object_in-body.ensures ∙ ap object_in c.field-2.ensures)
    (seen_same c.slices_or_one-slices.result ∙ c.slices_or_one-slices.ensures ∙ ap slices_or_one c.field-3.ensures)
    (seen_same c.rate_or_none-rate.result ∙ c.rate_or_none-rate.ensures ∙ ap rate_or_none c.field-4.ensures)
    (ap (seen (λ p. (option_map (λ u. u.now) p.0, p.1))) c.both.ensures
    ∙ seen_pair (λ t. option_map (λ u. u.now) t) (λ b. b) c.optional_text-opaque_id.result c.flag_or_false-store.result _ _
    (c.optional_text-opaque_id.ensures ∙ ap optional_text c.field-5.ensures)
    (seen_same c.flag_or_false-store.result ∙ c.flag_or_false-store.ensures ∙ ap flag_or_false c.field-6.ensures)))
    (sym (c.in_ok-node.ensures ∙ ap (both c.node_or_first-node.result) (c.both-3.ensures ∙ ap (both c.object_in-body.result) (c.both-rest.ensures ∙ ap (both c.slices_or_one-slices.result) c.both-2.ensures)))))

pub returns-in_err-node : goal.returns-in_err-node
unfolding reindex_in
returns-in_err-node c =
    let p = err_from_is_err_and c.from_residual-in_err-node.result c.from_residual-in_err-node.ensures.1 in
    rw (← c.in_ok-fields.ensures, p.1, p.2)
    (seen_err _ _ _ _ _
    (seen_five (λ n. n) (λ v. view v.now) (λ n. n) (λ r. r) (λ p. (option_map (λ u. u.now) p.0, p.1)) c.node_or_first-node.result c.object_in-body.result c.slices_or_one-slices.result c.rate_or_none-rate.result c.both.result _ _ _ _ _
    (seen_same c.node_or_first-node.result ∙ c.node_or_first-node.ensures ∙ ap (node_or_first c.args.nodes) c.field.ensures)
    (c.object_in-body.ensures ∙ ap object_in c.field-2.ensures)
    (seen_same c.slices_or_one-slices.result ∙ c.slices_or_one-slices.ensures ∙ ap slices_or_one c.field-3.ensures)
    (seen_same c.rate_or_none-rate.result ∙ c.rate_or_none-rate.ensures ∙ ap rate_or_none c.field-4.ensures)
    (ap (seen (λ p. (option_map (λ u. u.now) p.0, p.1))) c.both.ensures
    ∙ seen_pair (λ t. option_map (λ u. u.now) t) (λ b. b) c.optional_text-opaque_id.result c.flag_or_false-store.result _ _
    (c.optional_text-opaque_id.ensures ∙ ap optional_text c.field-5.ensures)
    (seen_same c.flag_or_false-store.result ∙ c.flag_or_false-store.ensures ∙ ap flag_or_false c.field-6.ensures)))
    (sym (c.in_err-node.ensures ∙ ap (both c.node_or_first-node.result) (c.both-3.ensures ∙ ap (both c.object_in-body.result) (c.both-rest.ensures ∙ ap (both c.slices_or_one-slices.result) c.both-2.ensures)))))

pub returns-in_err-fields : goal.returns-in_err-fields
unfolding reindex_in
returns-in_err-fields c =
    let p = err_from_is_err_and c.from_residual.result c.from_residual.ensures.1 in
    rw (← c.in_err-fields.ensures, p.1, p.2) refl
