-- It is taken out, if it was there.
use Rattle.std.proofs.Common.{◌≡◌, IfOk, subst}
use Rattle.data_pool.specs.Gathered.{Gathered}
use Rattle.control_worker.proofs.Gathering.{number_removed, found_gather, new_gather}
use Rattle.control_worker.proofs.gathers.take_gather.Goals as goal

pub returns-in-Some-clause-gather : goal.returns-in-Some-clause-gather
returns-in-Some-clause-gather c = found_gather c.args.gathers.now.entries c.args.cancel c.args.workers c.in-Some.gather c.in-Some.ensures.value

pub returns-in-Some-clause-after : goal.returns-in-Some-clause-after
returns-in-Some-clause-after c = number_removed c.args.gathers.now.entries c.remove.new.self.entries c.args.cancel c.remove.ensures.updates.0

pub returns-in-None-clause-gather : goal.returns-in-None-clause-gather
returns-in-None-clause-gather c = subst (λ (g : Gathered). IfOk c.new.result (λ gather. gather ≡ g)) (new_gather c.args.gathers.now.entries c.args.cancel c.args.workers c.in-None.ensures.value) c.new.ensures

pub returns-in-None-clause-after : goal.returns-in-None-clause-after
returns-in-None-clause-after c = number_removed c.args.gathers.now.entries c.remove.new.self.entries c.args.cancel c.remove.ensures.updates.0
