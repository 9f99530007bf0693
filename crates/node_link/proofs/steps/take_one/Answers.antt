use Rattle.node_link.proofs.Moves.{gets, nothing}
use Rattle.node_link.proofs.steps.take_one.Goals as goal

pub try_recv_as-requires-clause-rule : goal.try_recv_as-requires-clause-rule
try_recv_as-requires-clause-rule g c = (gets _ _ c.requires.mine, nothing _ _)
