use Rattle.std.proofs.Common.{ap, ◌∙◌}
use Rattle.node_link.proofs.Moves.{gets, nothing}
use Rattle.node_link.proofs.steps.wait_one.Goals as goal

pub recv_as-requires-clause-rule : goal.recv_as-requires-clause-rule
recv_as-requires-clause-rule g c = (gets _ _ (ap (λ v. v.gets) c.loop.invariant.3 ∙ c.requires.mine), nothing _ _)
