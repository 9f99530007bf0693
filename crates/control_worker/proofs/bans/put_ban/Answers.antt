use Rattle.std.proofs.Common.{sym, ◌∙◌}
use Rattle.control_worker.specs.Steps.{at}
use Rattle.control_worker.proofs.Banning.{puts_first}
use Rattle.control_worker.proofs.bans.put_ban.Goals as goal

pub returns-in_ok-list_ban-in-Some-clause-did : goal.returns-in_ok-list_ban-in-Some-clause-did
returns-in_ok-list_ban-in-Some-clause-did g c =
    let given = c.args.acts.now.items in
    let placed = rw c.in-Some.is at c.in_ok-place.ensures.did in
    puts_first g.B.ControlBoard.rests (at c.args.board.now c.args.core.now given) (at c.place_ban.new.board c.place_ban.new.core given) _ c.args.ban c.in-Some.place (sym c.is_banned.ensures ∙ c.if-is_banned.false) (placed given) c.in_ok-list_ban-in-Some.ensures.did
