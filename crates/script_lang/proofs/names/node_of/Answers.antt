use Rattle.std.proofs.Common.{◌≡◌, ℕ, suc, take, option_map, Option, Some, None, add-one, sym, ap, ◌∙◌}
use Rattle.std.proofs.lemmas.List.{take-map}
use Rattle.script_lang.specs.Names.{place_among, node_names, node_of}
use Rattle.script_lang.proofs.names.node_of.Goals as goal

pub returns-in_err-place : goal.returns-in_err-place
unfolding node_of
returns-in_err-place c =
    let none : ◌≡◌ {A = Option ℕ} None (place_among c.args.text.now (take c.args.nodes node_names)) = c.in_err-place.ensures.found ∙ ap (place_among c.args.text.now) (sym (take-map (λ n. n.now) c.args.nodes _)) in
    c.from_residual.ensures ∙ ap (option_map suc) none

pub returns : goal.returns
unfolding node_of
returns c =
    let some : Some c.in_ok-place.place ≡ place_among c.args.text.now (take c.args.nodes node_names) = c.in_ok-place.ensures.found ∙ ap (place_among c.args.text.now) (sym (take-map (λ n. n.now) c.args.nodes _)) in
    ap Some (add-one c.in_ok-place.place) ∙ ap (option_map suc) some
