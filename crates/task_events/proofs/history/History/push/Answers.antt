use Rattle.std.proofs.Common.{◌++◌, flat_map}
use Rattle.task_events.proofs.Counted.{stays_low}
use Rattle.task_events.proofs.history.History.push.Goals as goal

pub count-requires : goal.count-requires
count-requires c = stays_low (flat_map (λ piece. piece.items) c.self.inside.full.items ++ c.self.inside.last.items) c.self.inside.counts c.self.invariant.2 c.self.invariant.3
