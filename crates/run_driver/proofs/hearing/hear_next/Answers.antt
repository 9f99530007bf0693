use Rattle.run_inboxes.proofs.Same.{took}
use Rattle.run_driver.proofs.hearing.hear_next.Goals as goal

pub returns-clause-ends : goal.returns-clause-ends
returns-clause-ends g c = took c.args.ends.now c.take-letter.new.self c.take-letter.ensures.same
