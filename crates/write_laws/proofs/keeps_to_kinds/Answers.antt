use Rattle.write_laws.proofs.RunsKeep.{run_keeps}
use Rattle.write_laws.proofs.keeps_to_kinds.Goals as goal

pub returns : goal.returns
returns c = λ cluster corpus script h run. run_keeps cluster corpus script h run
