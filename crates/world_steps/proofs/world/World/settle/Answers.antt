use Rattle.std.proofs.Common.{subst, arith}
use Rattle.world_steps.specs.Runs.{PartlySettles, StopsSettling}
use Rattle.world_steps.specs.Waits.{EachWaits}
use Rattle.world_steps.proofs.WaitsAfter.{waits_there}
use Rattle.world_steps.proofs.world.World.settle.Goals as goal

pub returns-in-Err-clause-part : goal.returns-in-Err-clause-part
returns-in-Err-clause-part c = subst (λ w. PartlySettles w.cluster w.corpus w.script w.past c.settle.new.state.history) c.self.view_is c.in-Err.ensures.part

pub returns-in-Err-clause-cause : goal.returns-in-Err-clause-cause
returns-in-Err-clause-cause c = λ _. subst (λ w. StopsSettling w.cluster w.corpus w.script w.past c.settle.new.state.history c.in-Err.stop) c.self.view_is c.in-Err.ensures.stop

pub returns-in-Ok-clause-waits : goal.returns-in-Ok-clause-waits
returns-in-Ok-clause-waits c =
    let left = c.left-left.ensures in
    subst (λ w. EachWaits w.cluster w.corpus w.script c.settle.new.state.history) c.self.view_is
    (waits_there c.self.inside.state c.settle.new.state c.in-Ok.ensures.keeps c.in-Ok.ensures.tied (omega (arith, left)) c.in-Ok.ensures.settled.0)
