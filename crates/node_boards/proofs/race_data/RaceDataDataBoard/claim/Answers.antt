-- The seat has one ticket more.
use Rattle.std.proofs.Common.{rules, ◌≢◌}
use Rattle.node_boards.proofs.RaceTickets.{on_ok, taken_more}
use Rattle.node_boards.proofs.race_data.RaceDataDataBoard.claim.Goals as goal

pub returns-clause-more : goal.returns-clause-more
returns-clause-more g c = let some : c.args.number ≢ 0 = search rules in
    on_ok _ (taken_more _ _ _ _ some c.args.self.now.seat.sized.1 c.claim.new.seat.distinct) c.claim.ensures.takes
