use Rattle.control_worker.proofs.Gathering.{number_put}
use Rattle.control_worker.proofs.gathers.keep_gather.Goals as goal

pub returns : goal.returns
returns c = record { ok = number_put c.args.gathers.now.entries c.insert.new.self.entries c.args.cancel c.args.gather c.in_ok-insert.ensures.updates.0 }
