use Rattle.world_steps.proofs.Determined.{run_one}
use Rattle.world_steps.proofs.laws.one_run.Goals as goal

pub returns : goal.returns
returns c = λ cluster corpus script h g. run_one cluster corpus script h g
