use Rattle.std.proofs.Common.{subst}
use Rattle.world_moves.specs.Listings.{ListSteps}
use Rattle.world_moves.specs.Moves.{StopsMove}
use Rattle.world_steps.proofs.world.World.list_step.Goals as goal

pub returns-in-Err-clause-cause : goal.returns-in-Err-clause-cause
returns-in-Err-clause-cause c = λ _. subst (λ w. StopsMove (ListSteps (record { node = c.args.node; parent = c.args.parent })) w.past c.list_and_refresh.new.state.history c.in-Err.stop) c.self.view_is c.in-Err.ensures.stop
