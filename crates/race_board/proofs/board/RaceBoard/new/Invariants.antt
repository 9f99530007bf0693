use Rattle.std.proofs.Common.{◌≡◌, [], length, All}
use Rattle.race_board.specs.Seats.{IsNew, dealt}
use Rattle.race_board.proofs.board.RaceBoard.new.Given as goal

abbrev pub invariant-loop : goal.invariant-loop
invariant-loop g l = record {
  table : l.place.table_id ≡ l.board.words.table.shared.table_id;
  me : l.place.me ≡ (dealt l.board.words.size l.counter, []);
  count : length l.seats.items ≡ l.counter;
  all : All (IsNew l.board) l.seats.items;
}
