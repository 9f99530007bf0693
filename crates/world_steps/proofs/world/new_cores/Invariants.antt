use Rattle.std.proofs.Common.{◌≡◌}
use Rattle.world_steps.specs.World.{cores_from}
use Rattle.world_steps.proofs.world.new_cores.Given as goal

abbrev pub invariant-loop-place : goal.invariant-loop-place
invariant-loop-place l = l.cores.items ≡ cores_from 0 l.place
