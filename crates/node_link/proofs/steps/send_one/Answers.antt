use Rattle.std.proofs.Common.{ap, ◌∙◌, sym}
use Rattle.node_link.proofs.Moves.{sends, nothing}
use Rattle.node_link.proofs.steps.send_one.Goals as goal

pub try_send_as-requires-clause-rule : goal.try_send_as-requires-clause-rule
try_send_as-requires-clause-rule g c =
    let i = c.loop.invariant in
    let may = ap (λ v. v.sends) i.3 ∙ c.requires.mine.0 in
    (sends _ _ _ _ may (ap (λ m. m.from) i.4 ∙ c.requires.mine.1 ∙ sym (ap (λ v. v.from) i.3)), nothing _ _)
