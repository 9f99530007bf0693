use Rattle.std.proofs.Common.{refl}
use Rattle.world_moves.specs.Moves.{greatest_number}
use Rattle.task_top.proofs.laws.limits.Goals as goal

pub returns-clause-numbers : goal.returns-clause-numbers
unfolding greatest_number
returns-clause-numbers c = refl
