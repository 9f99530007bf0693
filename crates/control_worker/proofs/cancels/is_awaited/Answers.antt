use Rattle.control_worker.proofs.Cancelling.{awaited_is}
use Rattle.control_worker.proofs.cancels.is_awaited.Goals as goal

pub returns-clause-is : goal.returns-clause-is
returns-clause-is c = awaited_is _ c.args.from c.awaits.result c.awaits.ensures

pub returns-clause-there : goal.returns-clause-there
returns-clause-there c = c.awaits.ensures.0
