use Rattle.std.proofs.Common.{arith}
use Rattle.std.proofs.lemmas.Grind.{common_steps}
use Rattle.std.proofs.lemmas.Nat.Bits.{shr_and_one}
use Rattle.child_track.specs.NodeSet.{has_node}
use Rattle.child_track.proofs.nodes.NodeSet.has.Goals as goal

pub returns-then-node-lt16 : goal.returns-then-node-lt16
unfolding has_node
returns-then-node-lt16 c = grind (arith, common_steps, shr_and_one c.args.self.now.0 c.args.node)

pub returns-else-node-lt16 : goal.returns-else-node-lt16
unfolding has_node
returns-else-node-lt16 c = grind (arith, common_steps)
