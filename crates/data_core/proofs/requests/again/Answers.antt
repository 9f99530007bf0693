-- The request asks for what it asked for.
use Rattle.data_core.proofs.requests.again.Goals as goal

pub new-requires-2-clause-asked : goal.new-requires-2-clause-asked
new-requires-2-clause-asked g c = record { request = c.requires.asked; page = c.requires.pages }
