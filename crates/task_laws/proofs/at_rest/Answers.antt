use Rattle.task_laws.proofs.Rest.{leaf}
use Rattle.task_laws.proofs.at_rest.Goals as goal

pub returns : goal.returns
returns c = λ cluster h l r t i. leaf cluster h l r t i
