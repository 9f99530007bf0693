-- The seat lets this ticket go.
use Rattle.node_boards.proofs.plain_data_board.PlainDataDataBoard.end.Goals as goal

pub returns-clause-gone : goal.returns-clause-gone
returns-clause-gone g c = rw c.id-number.ensures at c.let_go.ensures.gone

pub returns-clause-others : goal.returns-clause-others
returns-clause-others g c = rw c.id-number.ensures at c.let_go.ensures.others
