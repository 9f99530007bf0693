-- The seat notes the check of this ticket alone.
use Rattle.node_boards.proofs.plain_data_board.PlainDataDataBoard.check.Goals as goal

pub returns-in-Clear-clause-others : goal.returns-in-Clear-clause-others
returns-in-Clear-clause-others g c = rw c.id.ensures at c.note_clear.ensures.others
