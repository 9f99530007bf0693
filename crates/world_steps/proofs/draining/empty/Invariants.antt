use Rattle.std.proofs.Common.{◌-◌, length}
use Rattle.task_events.specs.declared.history.TheConstants.{MAX_EVENTS}
use Rattle.world_steps.specs.World.{HasDrained}
use Rattle.world_steps.proofs.draining.empty.Given as goal

abbrev pub invariant-loop-stop : goal.invariant-loop-stop
invariant-loop-stop l = HasDrained l.initial.state l.state l.ready

abbrev pub decreases-loop-stop : goal.decreases-loop-stop
decreases-loop-stop l = MAX_EVENTS - length l.state.history
