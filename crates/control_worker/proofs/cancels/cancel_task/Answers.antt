use Rattle.control_worker.specs.View.{view_of}
use Rattle.control_worker.proofs.Belonging.{together_joined}
use Rattle.control_worker.proofs.cancels.cancel_task.Goals as goal

pub returns-in_err-join-in-Already-clause-together : goal.returns-in_err-join-in-Already-clause-together
returns-in_err-join-in-Already-clause-together g c =
    together_joined _ _ _ _ _ (view_of c.args.core.now) (view_of c.join.new.core) c.args.waiter c.requires.waiter c.requires.together c.mark.ensures.bans.0 c.mark.ensures.size.0 c.join.ensures.same

pub returns-in_ok-join-in-Already-clause-together : goal.returns-in_ok-join-in-Already-clause-together
returns-in_ok-join-in-Already-clause-together g c =
    together_joined _ _ _ _ _ (view_of c.args.core.now) (view_of c.join.new.core) c.args.waiter c.requires.waiter c.requires.together c.mark.ensures.bans.0 c.mark.ensures.size.0 c.join.ensures.same
