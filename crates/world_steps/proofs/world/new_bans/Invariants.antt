use Rattle.std.proofs.Common.{◌≡◌}
use Rattle.world_steps.specs.World.{no_bans}
use Rattle.world_steps.proofs.world.new_bans.Given as goal

abbrev pub invariant-loop-place : goal.invariant-loop-place
invariant-loop-place l = l.bans.items ≡ no_bans l.place
