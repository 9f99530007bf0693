use Rattle.run_inboxes.proofs.Same.{took}
use Rattle.run_cluster_tests.proofs.drivers.Searches.hear.Goals as goal

pub returns : goal.returns
returns g c = took c.args.ends.now c.take-letter.new.self c.take-letter.ensures.same
