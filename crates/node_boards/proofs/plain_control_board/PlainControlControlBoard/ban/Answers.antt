-- Each place has a ban.
use Rattle.std.proofs.Common.{rules}
use Rattle.node_boards.proofs.Marking.{some_ban}
use Rattle.node_boards.proofs.plain_control_board.PlainControlControlBoard.ban.Goals as goal

pub returns-in_default-clause-full : goal.returns-in_default-clause-full
returns-in_default-clause-full g c = let none = rw c.deref.ensures.value at c.in_default.ensures.none in ((λ j p d. ((λ is. is), (λ is. is))), (λ j l. some_ban _ (none j l)))
