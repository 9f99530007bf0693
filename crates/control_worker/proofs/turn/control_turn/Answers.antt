use Rattle.control_worker.specs.View.{view_of}
use Rattle.control_worker.proofs.Making.{turned}
use Rattle.control_worker.proofs.Acting.{turn_lawful}
use Rattle.control_worker.proofs.turn.control_turn.Goals as goal

pub returns-clause-lawful : goal.returns-clause-lawful
returns-clause-lawful g c =
    let rests = g.B.ControlBoard.rests in
    let v = view_of c.args.core.now in
    let w = view_of c.take_in.new.core in
    let did = turned rests c.args.board.now c.take_in.new.board v w c.into_body.result c.new-acts.result.items c.take_in.new.acts.items c.new-acts.ensures.items c.in_ok-take_in.ensures.did in
    turn_lawful g.N.BoardName.allowed rests (g.B.ControlBoard.bans c.args.board.now) (g.B.ControlBoard.slots c.args.board.now) c.args.board.now c.take_in.new.board v w c.into_body.result c.take_in.new.acts.items c.requires.together
    c.into_body.ensures.lawful did
