use Rattle.node_worker.proofs.Standing.{passed_one, heard_one}
use Rattle.node_worker.proofs.standby.hears_stop.Goals as goal

pub returns-in-Ok-clause-passed : goal.returns-in-Ok-clause-passed
returns-in-Ok-clause-passed g c _ = passed_one _ _ c.in-Some.letter c.in-Some.ensures.same c.in-Some.ensures.taken

pub returns-in-Err-clause-heard : goal.returns-in-Err-clause-heard
returns-in-Err-clause-heard g c _ = heard_one _ _ c.in-Some.letter _ c.in-Some.ensures.same c.in-Some.ensures.taken c.in-Err.ensures
