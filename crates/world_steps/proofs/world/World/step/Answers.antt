use Rattle.std.proofs.Common.{subst}
use Rattle.world_steps.specs.Runs.{Steps}
use Rattle.world_moves.specs.Moves.{IsPartly, StopsMove}
use Rattle.world_steps.proofs.world.World.step.Goals as goal

pub returns-in-Err-clause-part : goal.returns-in-Err-clause-part
returns-in-Err-clause-part c = subst (λ w. IsPartly (Steps w.cluster w.corpus w.script c.args.task) w.past c.step_and_refresh.new.state.history) c.self.view_is c.in-Err.ensures.part

pub returns-in-Err-clause-cause : goal.returns-in-Err-clause-cause
returns-in-Err-clause-cause c = λ _. subst (λ w. StopsMove (Steps w.cluster w.corpus w.script c.args.task) w.past c.step_and_refresh.new.state.history c.in-Err.stop) c.self.view_is c.in-Err.ensures.stop
