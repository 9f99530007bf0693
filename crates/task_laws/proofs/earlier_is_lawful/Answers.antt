use Rattle.task_laws.proofs.earlier_is_lawful.Goals as goal
use Rattle.task_laws.proofs.Earlier.{earlier_lawful}

pub returns : goal.returns
returns c = earlier_lawful
