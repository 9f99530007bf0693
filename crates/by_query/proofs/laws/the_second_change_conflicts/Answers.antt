use Rattle.by_query.proofs.ChangeLemmas.{second_conflicts}
use Rattle.by_query.proofs.laws.the_second_change_conflicts.Goals as goal

pub returns : goal.returns
returns c = λ first second writes same before. second_conflicts first second writes same before
