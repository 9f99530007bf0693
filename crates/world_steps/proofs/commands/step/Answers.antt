use Rattle.world_moves.specs.Moves.{IsPartly}
use Rattle.world_moves.proofs.Outcomes.{stops_as}
use Rattle.world_steps.specs.declared.acting.Stepped.{Stepped}
use Rattle.world_steps.specs.Runs.{Steps, AnswersStep}
use Rattle.world_steps.proofs.Commanded.{partly_steps}
use Rattle.world_steps.proofs.commands.step.Goals as goal

pub returns-in-Err-clause-stop : goal.returns-in-Err-clause-stop
returns-in-Err-clause-stop c =
    let s = c.args.state.now in
    stops_as (IsPartly (Steps s.cluster s.corpus.now s.script.now c.args.task) s.history) (IsPartly (λ h new. (stepped : Stepped) × AnswersStep s.cluster s.corpus.now s.script.now c.args.task h stepped new) s.history) ⊥ ⊥
    c.step_and_refresh.new.state.history c.in-Err.stop (λ past. partly_steps s.cluster s.corpus.now s.script.now c.args.task s.history past) (λ never. never) c.in-Err.ensures.stop
