use Rattle.std.proofs.Common.{refl}
use Rattle.control_worker.specs.View.{view_of}
use Rattle.control_worker.proofs.Waiting.{stays_ended}
use Rattle.control_worker.proofs.cancels.end_task.Goals as goal

pub returns-clause-same : goal.returns-clause-same
returns-clause-same c = stays_ended (view_of c.args.core.now) _ c.args.task c.args.receipt c.in_ok-more.ensures.ended refl refl refl
