-- Of a run of which nothing is known a letter may say what it says.
use Rattle.node_tests.proofs.commands.search.Goals as goal

pub new-requires-2-clause-asked : goal.new-requires-2-clause-asked
new-requires-2-clause-asked c = record { request = tt; page = tt }
