use Rattle.write_laws.proofs.RunsKeep.{run_keeps}
use Rattle.write_laws.proofs.TreesTold.{trees_told}
use Rattle.write_laws.proofs.counts_its_writes.Goals as goal

pub returns-clause-histories : goal.returns-clause-histories
returns-clause-histories c = λ cluster corpus script h l plain keeps. trees_told cluster corpus script h l plain keeps

pub returns-clause-runs : goal.returns-clause-runs
returns-clause-runs c = λ cluster corpus script h run l plain. trees_told cluster corpus script h l plain (run_keeps cluster corpus script h run)
