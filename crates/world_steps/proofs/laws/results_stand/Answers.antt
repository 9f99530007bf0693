use Rattle.command_roots.specs.Results.{keeping}
use Rattle.world_steps.proofs.ResultsFollow.{not_live, result_is_reply, standing}
use Rattle.world_steps.proofs.laws.results_stand.Goals as goal

pub returns-clause-ended : goal.returns-clause-ended
returns-clause-ended c = λ cluster script h t reply lawful stands. not_live (keeping script) cluster t reply h lawful stands

pub returns-clause-same : goal.returns-clause-same
returns-clause-same c = λ cluster script h t reply lawful stands. result_is_reply (keeping script) cluster t reply h lawful stands

pub returns-clause-all : goal.returns-clause-all
returns-clause-all c = λ script h t. standing (keeping script) h t
