use Rattle.run_inboxes.proofs.Same.{took}
use Rattle.node_tests.proofs.driver.hear.Goals as goal

pub returns : goal.returns
returns g c = took c.args.ends.now c.take-letter.new.self c.take-letter.ensures.same
