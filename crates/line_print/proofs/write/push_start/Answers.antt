use Rattle.std.proofs.Common.{◌≡◌, ℕ, ◌++◌, List, OnOk, subst, codes, decimal, ap, ◌∙◌}
use Rattle.line_print.proofs.write.push_start.Goals as goal

pub returns : goal.returns
returns c =
    subst (λ (text : List ℕ). OnOk c.push-2.result (c.push-2.new.out.items ≡ text ++ c.args.key.now))
    (c.in_ok-push_number.ensures ∙ ap (λ text. text ++ decimal c.from.result) c.in_ok-push.ensures ∙ ap (λ n. (c.args.out.now.items ++ codes "{\"command\":") ++ decimal n) c.from.ensures)
    c.push-2.ensures
