use Rattle.std.proofs.Common.{refl}
use Rattle.child_track.specs.NodeSet.{nodes_of}
use Rattle.control_worker.specs.View.{view_of}
use Rattle.control_worker.proofs.Belonging.{together_begun}
use Rattle.control_worker.proofs.cancels.begin.Goals as goal

pub begin-requires-clause-waiter : goal.begin-requires-clause-waiter
begin-requires-clause-waiter g c = λ x is. (c.requires.waiter x is).0

pub returns-clause-together : goal.returns-clause-together
returns-clause-together g c =
    together_begun _ _ _ _ _ (view_of c.args.core.now) _ c.args.task c.args.cancel (nodes_of c.mask-nodes.result) c.args.waiter c.requires.together c.mask-nodes.ensures.bans.0 c.mask-nodes.ensures.size.0 c.requires.waiter
    c.in_ok-more.ensures.begun refl refl refl
