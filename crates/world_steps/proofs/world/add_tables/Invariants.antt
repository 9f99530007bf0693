use Rattle.std.proofs.Common.{◌≡◌}
use Rattle.world_steps.specs.World.{tables_from}
use Rattle.world_steps.proofs.world.add_tables.Given as goal

abbrev pub invariant-loop-place : goal.invariant-loop-place
invariant-loop-place l = l.tables.items ≡ tables_from 0 l.place l.cluster.slots
