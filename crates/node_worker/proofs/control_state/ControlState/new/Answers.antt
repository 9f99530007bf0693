-- The empty set has no node.
use Rattle.std.proofs.Common.{refl}
use Rattle.child_track.proofs.NodeLemmas.{has_node-none}
use Rattle.node_worker.proofs.control_state.ControlState.new.Goals as goal

pub returns-clause-nobody_left : goal.returns-clause-nobody_left
returns-clause-nobody_left g c = (refl, has_node-none, has_node-none)
