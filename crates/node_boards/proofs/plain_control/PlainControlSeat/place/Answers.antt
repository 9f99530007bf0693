-- A free place gets a ban of a parent that had none.
use Rattle.std.proofs.Common.{sym}
use Rattle.node_boards.proofs.PlacedBans.{one_each_more}
use Rattle.node_boards.proofs.plain_control.PlainControlSeat.place.Goals as goal

pub invariant_of-self-clause-one_each : goal.invariant_of-self-clause-one_each
invariant_of-self-clause-one_each g c = one_each_more _ _ _ c.requires.free.0 c.args.self.now.one_each _ (λ q k is. sym is.0) c.requires.new
