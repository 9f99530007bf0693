use Rattle.std.proofs.Common.{rules, ◌≡◌}
use Rattle.control_worker.specs.Steps.{at}
use Rattle.control_worker.proofs.Banning.{unbans_on, is_same}
use Rattle.control_worker.proofs.bans.take_unban.Goals as goal

pub returns-clause-did : goal.returns-clause-did
returns-clause-did g c =
    let given = c.args.acts.now.items in
    let here : c.args.to ≡ c.node.result = search rules in
    unbans_on g.B.ControlBoard.rests (at c.args.board.now c.args.core.now given) (at c.lift.new.board c.lift.new.core given) (at c.put_kept.new.board c.put_kept.new.core c.put_kept.new.acts.items) c.args.parent c.args.to c.put_kept.result
    (is_same c.args.to c.node.result c.args.core.now.node c.node.ensures.node here) (c.lift.ensures.did given) c.put_kept.ensures.did
