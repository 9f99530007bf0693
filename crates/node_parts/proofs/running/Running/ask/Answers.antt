use Rattle.std.proofs.Common.{◌≡◌, None, Some, refl}
use Rattle.node_parts.proofs.running.Running.ask.Goals as goal

pub unreachable-requires : goal.unreachable-requires
unreachable-requires c =
    let closed : c.args.self.now.track.closed ≡ Some c.in-Err-Closed.field-0-0 = (c.in-Err-Closed.ensures.closed c.in-Err-Closed.field-0-0).0 (rw c.in-Err-Closed.field-0-is refl) in
    let was : c.args.self.now.track.closed ≡ None = c.requires.«open» in
    cc
