-- Of a run of which only its documents are known a letter may say what it says.
use Rattle.run_cluster_tests.proofs.drivers.search.Goals as goal

pub new-requires-2-clause-asked : goal.new-requires-2-clause-asked
new-requires-2-clause-asked c = record { request = tt; page = tt }
