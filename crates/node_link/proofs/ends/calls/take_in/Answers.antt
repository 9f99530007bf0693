use Rattle.std.proofs.Common.{ap, ◌∙◌}
use Rattle.node_link.proofs.Moves.{merges, whole}
use Rattle.node_link.proofs.ends.calls.take_in.Goals as goal

pub absorb-requires-clause-rule : goal.absorb-requires-clause-rule
absorb-requires-clause-rule g c = merges _ _ _ _ c.requires.mine c.args.end.mine.0

pub learn_as-requires-clause-rule : goal.learn_as-requires-clause-rule
learn_as-requires-clause-rule g c =
    let now = c.absorb.ensures.rule in
    whole _ _ (ap (λ v. v.gets) now ∙ c.requires.mine) (ap (λ v. v.sends) now ∙ c.args.end.mine.0)
