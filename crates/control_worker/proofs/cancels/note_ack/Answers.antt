use Rattle.std.proofs.Common.{refl}
use Rattle.control_worker.specs.View.{view_of}
use Rattle.control_worker.proofs.Waiting.{stays_acked}
use Rattle.control_worker.proofs.cancels.note_ack.Goals as goal

pub returns-clause-same : goal.returns-clause-same
returns-clause-same c = stays_acked (view_of c.args.core.now) _ c.args.parent c.args.from c.in_ok-more.ensures.acked refl refl refl
