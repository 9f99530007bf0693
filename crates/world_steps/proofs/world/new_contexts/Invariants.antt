use Rattle.std.proofs.Common.{◌≡◌}
use Rattle.world_steps.specs.World.{no_contexts}
use Rattle.world_steps.proofs.world.new_contexts.Given as goal

abbrev pub invariant-loop-place : goal.invariant-loop-place
invariant-loop-place l = l.contexts.items ≡ no_contexts l.place
