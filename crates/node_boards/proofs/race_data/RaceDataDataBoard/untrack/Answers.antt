-- The ticket is the same but for its cleared nodes.
use Rattle.std.proofs.Common.{◌≢◌, arith}
use Rattle.race_board.specs.Seats.{board_size}
use Rattle.node_boards.proofs.RaceTickets.{untracked}
use Rattle.node_boards.proofs.race_data.RaceDataDataBoard.untrack.Goals as goal

pub returns-clause-tickets : goal.returns-clause-tickets
returns-clause-tickets g c = let least = c.args.ticket.now.id.number_in_range in untracked _ _ (board_size c.args.self.now.board.now) _ _ (λ e. omega arith) c.untrack.ensures.untracks
