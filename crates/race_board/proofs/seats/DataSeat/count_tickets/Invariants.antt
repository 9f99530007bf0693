use Rattle.std.proofs.Common.{◌≡◌, ◌≤◌, take, count_by}
use Rattle.race_board.specs.Board.{is_out}
use Rattle.race_board.proofs.seats.DataSeat.count_tickets.Given as goal

abbrev pub invariant-loop-slot : goal.invariant-loop-slot
invariant-loop-slot g l = record {
  count : l.count ≡ count_by is_out (take l.slot l.self.place.me.0.held);
  few : l.count ≤ l.slot;
}
