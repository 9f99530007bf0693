use Rattle.std.proofs.Common.{refl}
use Rattle.cancel_core.proofs.Nodes.{seen-ack}
use Rattle.cancel_core.proofs.stage.Stage.after_ack.Goals as goal

pub returns : goal.returns
returns c waiters = seen-ack c.args.self.now _ c.args.from waiters refl refl refl c.with.ensures
