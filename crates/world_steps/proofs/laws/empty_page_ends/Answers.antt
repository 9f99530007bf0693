use Rattle.world_steps.proofs.PagesInOrder.{all_of_run}
use Rattle.world_steps.proofs.laws.empty_page_ends.Goals as goal

pub returns : goal.returns
returns c = λ cluster corpus script h id context alone lawful plain first given none. all_of_run cluster corpus script id h alone lawful plain context first given none
