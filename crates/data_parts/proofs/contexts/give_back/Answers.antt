use Rattle.std.specs.FinMap as finite
use Rattle.data_parts.proofs.Using.{busy_is}
use Rattle.data_parts.proofs.contexts.give_back.Goals as goal

pub give_back-requires : goal.give_back-requires
give_back-requires c = record { busy = busy_is c.args.task c.uses.result (finite.get c.args.contexts.now c.in-Some.id) c.uses.ensures.none c.uses.ensures.some c.if-uses.true }
