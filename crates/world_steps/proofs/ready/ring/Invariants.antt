use Rattle.std.proofs.Common.{length}
use Rattle.world_steps.specs.World.{HasAlarmed}
use Rattle.world_steps.proofs.ready.ring.Given as goal

abbrev pub invariant-loop-task : goal.invariant-loop-task
invariant-loop-task l = HasAlarmed l.state l.ready

abbrev pub decreases-loop-task : goal.decreases-loop-task
decreases-loop-task l = length l.ready.alarms.order.keys
