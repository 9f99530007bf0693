use Rattle.std.proofs.Common.{◌≡◌, ◌≢◌, ◌<◌, length}
use Rattle.race_board.specs.Board.{hold}
use Rattle.race_board.specs.Kinds.{checks}
use Rattle.race_board.specs.Walks.{Walks}
use Rattle.race_board.specs.Calls.{Longer, SawNoBan}
use Rattle.race_board.specs.Checks.{Checked, ticket_parent}
use Rattle.race_board.proofs.Checking.{reached}
use Rattle.race_board.proofs.Doing.{so_far}
use Rattle.race_board.proofs.board.RaceBoard.check.Given as goal

abbrev pub invariant-loop-place : goal.invariant-loop-place
invariant-loop-place g l = record {
  table : l.seat.place.table_id ≡ l.fn.seat.place.table_id;
  inside : l.slot < length l.fn.seat.place.me.0.held;
  numbered : (hold l.fn.seat.place.me.0 l.slot).number ≡ l.ticket.id.number;
  some : l.ticket.id.number ≢ 0;
  child : (hold l.fn.seat.place.me.0 l.slot).parent ≡ l.parent;
  of_ticket : l.parent ≡ ticket_parent l.ticket;
  on : Checked l.fn.seat.place.me.0 l.seat.place.me.0 l.slot (reached l.place l.self.words.size.bans (hold l.fn.seat.place.me.0 l.slot).check);
  longer : Longer l.fn.seat.place.me.0 l.seat.place.me.0;
  walks : Walks (checks l.ticket.id.number) l.fn.seat.place.me.0 l.seat.place.me.0 (so_far l.ticket.id.number l.place l.self.words.size.bans);
  none_yet : SawNoBan l.fn.seat.place.me.0 l.seat.place.me.0 l.self.words.size.slots l.place l.parent;
}
