use Rattle.std.proofs.Common.{sym, ◌∙◌, ap, ◌++◌, ◌∷◌, [], append_assoc}
use Rattle.std.specs.Prelude.{codes, decimal}
use Rattle.node_parts.proofs.kinds.scroll_description.Goals as goal

pub returns : goal.returns
returns c =
    let id = c.args.id in
    c.new.ensures ∙ c.in_ok-format.ensures.ok ∙ ap (λ l. codes "scrollId[n" ++ l) (sym (append_assoc (decimal id.node) (58 ∷ decimal id.number) (93 ∷ [])))
