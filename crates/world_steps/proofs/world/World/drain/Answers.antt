use Rattle.std.proofs.Common.{subst}
use Rattle.world_steps.specs.Scripts.{IsTurn, PartlyDrains, StopsDrain, closing}
use Rattle.world_steps.proofs.Turning.{turn_of_drain}
use Rattle.world_steps.proofs.world.World.drain.Goals as goal

pub returns-in-Ok-clause-turn : goal.returns-in-Ok-clause-turn
returns-in-Ok-clause-turn c =
    let s = c.self.inside.state in
    subst (λ w. IsTurn (closing w.script) w.past c.drain.new.state.history) c.self.view_is (turn_of_drain s.cluster s.corpus.now s.script.now s.history c.drain.new.state.history c.in-Ok.ensures.drained)

pub returns-in-Err-clause-part : goal.returns-in-Err-clause-part
returns-in-Err-clause-part c = subst (λ w. PartlyDrains w.cluster w.corpus w.script w.past c.drain.new.state.history) c.self.view_is c.in-Err.ensures.part

pub returns-in-Err-clause-cause : goal.returns-in-Err-clause-cause
returns-in-Err-clause-cause c = λ _. subst (λ w. StopsDrain w.cluster w.corpus w.script w.past c.drain.new.state.history c.in-Err.stop) c.self.view_is c.in-Err.ensures.stop
