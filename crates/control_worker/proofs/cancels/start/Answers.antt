use Rattle.std.proofs.Common.{refl}
use Rattle.control_worker.specs.View.{view_of}
use Rattle.control_worker.proofs.Belonging.{together_joined}
use Rattle.control_worker.proofs.cancels.start.Goals as goal

pub returns-then-has-clause-together : goal.returns-then-has-clause-together
returns-then-has-clause-together g c =
    together_joined _ _ _ _ _ (view_of c.args.core.now) (view_of c.join.new.core) c.args.waiter c.requires.waiter c.requires.together (λ j p k. ((λ is. is), (λ is. is))) refl c.join.ensures.same
