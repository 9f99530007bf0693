use Rattle.task_top.proofs.LackedNumbers.{spent_is_none}
use Rattle.task_top.proofs.WholeRuns.{full_is_longer, so_far_within}
use Rattle.task_top.proofs.laws.early_ends.Goals as goal

pub returns-clause-first_part : goal.returns-clause-first_part
returns-clause-first_part c = λ cluster corpus script past h. so_far_within cluster corpus script past h

pub returns-clause-full : goal.returns-clause-full
returns-clause-full c = λ cluster corpus script past h. full_is_longer cluster corpus script past h

pub returns-clause-spent : goal.returns-clause-spent
returns-clause-spent c = λ cluster corpus script past h. spent_is_none cluster corpus script past h
