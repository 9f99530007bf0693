use Rattle.std.proofs.Common.{refl}
use Rattle.control_worker.specs.View.{view_of}
use Rattle.control_worker.proofs.Waiting.{stays_joined}
use Rattle.control_worker.proofs.cancels.join.Goals as goal

pub returns-clause-same : goal.returns-clause-same
returns-clause-same c = stays_joined (view_of c.args.core.now) _ c.args.task c.args.waiter c.in_ok-more.ensures.joined refl refl refl
