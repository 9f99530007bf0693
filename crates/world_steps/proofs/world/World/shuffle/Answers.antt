use Rattle.std.proofs.Common.{subst}
use Rattle.world_steps.specs.Shuffling.{PartlyShuffles, StopsShuffling}
use Rattle.world_steps.proofs.world.World.shuffle.Goals as goal

pub returns-in-Err-clause-part : goal.returns-in-Err-clause-part
returns-in-Err-clause-part c = subst (λ w. PartlyShuffles w.cluster w.corpus w.script c.args.seed c.args.moves w.past c.shuffle.new.state.history) c.self.view_is c.in-Err.ensures.part

pub returns-in-Err-clause-cause : goal.returns-in-Err-clause-cause
returns-in-Err-clause-cause c = λ _. subst (λ w. StopsShuffling w.cluster w.corpus w.script c.args.seed c.args.moves w.past c.shuffle.new.state.history c.in-Err.stop) c.self.view_is c.in-Err.ensures.stop
