use Rattle.task_laws.proofs.FirstSteps.{steps_first}
use Rattle.task_laws.proofs.first_steps.Goals as goal

pub returns : goal.returns
returns c = λ cluster h l. steps_first cluster h l
