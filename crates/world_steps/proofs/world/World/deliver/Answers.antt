use Rattle.std.proofs.Common.{subst}
use Rattle.world_moves.specs.Moves.{Delivers, IsPartly, StopsDelivery}
use Rattle.world_steps.proofs.world.World.deliver.Goals as goal

pub returns-in-Ok-clause-done : goal.returns-in-Ok-clause-done
returns-in-Ok-clause-done c = λ _. subst (λ w. Delivers w.cluster w.past c.args.nth c.deliver_and_refresh.new.state.history) c.self.view_is c.in-Ok.ensures.delivered

pub returns-in-Err-clause-part : goal.returns-in-Err-clause-part
returns-in-Err-clause-part c = subst (λ w. IsPartly (λ h new. Delivers w.cluster h c.args.nth new) w.past c.deliver_and_refresh.new.state.history) c.self.view_is c.in-Err.ensures.part

pub returns-in-Err-clause-cause : goal.returns-in-Err-clause-cause
returns-in-Err-clause-cause c = λ _. subst (λ w. StopsDelivery w.cluster w.past c.args.nth c.deliver_and_refresh.new.state.history c.in-Err.stop) c.self.view_is c.in-Err.ensures.stop
