use Rattle.node_worker.proofs.OfControl.{control_tells}
use Rattle.node_worker.proofs.control.ControlKindTurnsOf.step.Goals as goal

pub say_left-requires-clause-asks : goal.say_left-requires-clause-asks
say_left-requires-clause-asks g c = control_tells g.W.Run.setting
