use Rattle.std.proofs.Common.{subst}
use Rattle.world_steps.specs.Scripts.{IsTurn, StopsCommand}
use Rattle.world_steps.proofs.Turning.{turn_of_command, last_in_turn}
use Rattle.world_steps.proofs.world.World.command.Goals as goal

pub returns-in-Ok-clause-turn : goal.returns-in-Ok-clause-turn
returns-in-Ok-clause-turn c =
    let s = c.self.inside.state in
    subst (λ w. IsTurn c.args.k w.past c.command.new.state.history) c.self.view_is (turn_of_command s.cluster s.corpus.now s.script.now c.args.k s.history c.command.new.state.history c.in-Ok.ensures.done)

pub returns-in-Ok-clause-number : goal.returns-in-Ok-clause-number
returns-in-Ok-clause-number c =
    let s = c.self.inside.state in
    last_in_turn c.args.k s.history c.command.new.state.history (turn_of_command s.cluster s.corpus.now s.script.now c.args.k s.history c.command.new.state.history c.in-Ok.ensures.done)

pub returns-in-Err-clause-cause : goal.returns-in-Err-clause-cause
returns-in-Err-clause-cause c = λ _. subst (λ w. StopsCommand w.cluster w.corpus w.script c.args.k w.past c.command.new.state.history c.in-Err.stop) c.self.view_is c.in-Err.ensures.stop
