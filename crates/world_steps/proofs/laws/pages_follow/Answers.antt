use Rattle.world_steps.proofs.PagesInOrder.{pages_of_run}
use Rattle.world_steps.proofs.laws.pages_follow.Goals as goal

pub returns : goal.returns
returns c = λ cluster corpus script h id context alone lawful plain first given. pages_of_run cluster corpus script id h alone lawful plain context first given
