use Rattle.std.proofs.Common.{arith}
use Rattle.child_track.proofs.NodeLemmas.{has_node-with}
use Rattle.child_track.proofs.nodes.NodeSet.with.Goals as goal

pub returns : goal.returns
returns c n = has_node-with c.args.self.0 c.args.node n (omega arith)
