use Rattle.node_worker.proofs.OfControl.{control_tells}
use Rattle.node_worker.proofs.control.ControlKindTurnsOf.take.Goals as goal

pub take_in-requires-clause-asks : goal.take_in-requires-clause-asks
take_in-requires-clause-asks g c = control_tells g.W.Run.setting
