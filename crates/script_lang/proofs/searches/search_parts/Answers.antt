use Rattle.std.proofs.Common.{option_map, sym, ap, ◌∙◌}
use Rattle.std.proofs.lemmas.Result.{err_from_is_err_and}
use Rattle.serde_json.specs.View.{view}
use Rattle.script_lang.specs.Commands.{search_in}
use Rattle.script_lang.specs.Fields.{both, text_of, node_or_first, body_in, body_or_empty, optional_keep_alive, optional_text}
use Rattle.script_lang.proofs.FieldLemmas.{seen_same, seen_five, seen_ok, seen_err}
use Rattle.script_lang.proofs.searches.search_parts.Goals as goal

pub returns : goal.returns
unfolding search_in
returns c =
    rw (← c.in_ok-fields.ensures)
    (seen_ok _ _ _ _ _
    (seen_five (λ t. t.now) (λ n. n) (λ k. k) (λ b. body_or_empty (option_map (λ v. view v.now) b)) (λ t. option_map (λ u. u.now) t) c.text_of-index.result c.node_or_first-node.result c.optional_keep_alive-scroll.result c.body_in-body.result c.optional_text-opaque_id.result _ _ _ _ _
    (c.text_of-index.ensures ∙ ap text_of c.field.ensures)
    (seen_same c.node_or_first-node.result ∙ c.node_or_first-node.ensures ∙ ap (node_or_first c.args.nodes) c.field-2.ensures)
    (seen_same c.optional_keep_alive-scroll.result ∙ c.optional_keep_alive-scroll.ensures ∙ ap optional_keep_alive c.field-3.ensures)
    (c.body_in-body.ensures ∙ ap body_in c.field-4.ensures)
    (c.optional_text-opaque_id.ensures ∙ ap optional_text c.field-5.ensures))
    (sym (c.in_ok-index.ensures ∙ ap (both c.text_of-index.result) (c.both-2.ensures ∙ ap (both c.node_or_first-node.result) (c.both-rest.ensures ∙ ap (both c.optional_keep_alive-scroll.result) c.both.ensures)))))

pub returns-in_err-index : goal.returns-in_err-index
unfolding search_in
returns-in_err-index c =
    let p = err_from_is_err_and c.from_residual-in_err-index.result c.from_residual-in_err-index.ensures.1 in
    rw (← c.in_ok-fields.ensures, p.1, p.2)
    (seen_err _ _ _ _ _
    (seen_five (λ t. t.now) (λ n. n) (λ k. k) (λ b. body_or_empty (option_map (λ v. view v.now) b)) (λ t. option_map (λ u. u.now) t) c.text_of-index.result c.node_or_first-node.result c.optional_keep_alive-scroll.result c.body_in-body.result c.optional_text-opaque_id.result _ _ _ _ _
    (c.text_of-index.ensures ∙ ap text_of c.field.ensures)
    (seen_same c.node_or_first-node.result ∙ c.node_or_first-node.ensures ∙ ap (node_or_first c.args.nodes) c.field-2.ensures)
    (seen_same c.optional_keep_alive-scroll.result ∙ c.optional_keep_alive-scroll.ensures ∙ ap optional_keep_alive c.field-3.ensures)
    (c.body_in-body.ensures ∙ ap body_in c.field-4.ensures)
    (c.optional_text-opaque_id.ensures ∙ ap optional_text c.field-5.ensures))
    (sym (c.in_err-index.ensures ∙ ap (both c.text_of-index.result) (c.both-2.ensures ∙ ap (both c.node_or_first-node.result) (c.both-rest.ensures ∙ ap (both c.optional_keep_alive-scroll.result) c.both.ensures)))))
