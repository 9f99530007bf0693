use Rattle.std.proofs.Common.{[], ◌∷◌, ◌++◌, ◌∙◌}
use Rattle.control_worker.specs.declared.act.ControlAct.TheVariants as act
use Rattle.control_worker.specs.View.{view_of}
use Rattle.control_worker.specs.Steps.{at}
use Rattle.control_worker.proofs.Matching.{matches}
use Rattle.control_worker.proofs.matches.take_matches.Goals as goal

pub returns-clause-did : goal.returns-clause-did
returns-clause-did g c =
    let before = at c.args.board.now c.args.core.now c.args.acts.now.items in
    matches g.B.ControlBoard.rests c.args.waiter before c.cancel_each.new.board (view_of c.cancel_each.new.core) c.cancel_each.new.acts.items c.push.new.self.items c.args.rows.now c.in_ok-found.found.items c.sort_unstable.new.self.items
    c.in_ok-found.ensures.did c.sort_unstable.ensures.permutation c.sort_unstable.ensures.sorted
    (c.in_ok-push.ensures.items ∙ (λ i. c.cancel_each.new.acts.items ++ act.Named (c.node.ensures.node i) c.args.waiter.cancel (c.from_vec.ensures i) ∷ []))
