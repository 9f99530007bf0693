use Rattle.std.proofs.Common.{refl}
use Rattle.control_worker.specs.View.{view_of}
use Rattle.control_worker.proofs.Belonging.{together_lifted}
use Rattle.control_worker.proofs.Banning.{makes_lifts}
use Rattle.control_worker.proofs.bans.lift.Goals as goal

pub returns-clause-together : goal.returns-clause-together
returns-clause-together g c =
    together_lifted _ _ _ _ _ (view_of c.args.core.now) _ c.args.parent c.requires.together c.unban.ensures.gone c.unban.ensures.size.0 c.forget_ban.ensures c.drop_kept.ensures refl refl

pub returns-clause-did : goal.returns-clause-did
returns-clause-did g c = λ given.
    let v = view_of c.args.core.now in
    makes_lifts g.B.ControlBoard.rests c.args.board.now c.unban.new.self v _ given c.args.parent c.unban.result c.unban.ensures.rests (λ i. record v { bans = c.forget_ban.ensures i; kept = c.drop_kept.ensures i })
