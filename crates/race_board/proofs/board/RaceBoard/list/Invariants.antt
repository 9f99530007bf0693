use Rattle.std.proofs.Common.{◌≡◌, ◌≤◌, ◌<◌, ◌++◌, length, take}
use Rattle.race_board.specs.Board.{ban}
use Rattle.race_board.specs.Kinds.{lists}
use Rattle.race_board.specs.Walks.{Walks}
use Rattle.race_board.specs.Calls.{Longer}
use Rattle.race_board.specs.Lists.{Listing, HandsOver, new_to, marks_with, done_at}
use Rattle.race_board.proofs.Handed.{SameFrom}
use Rattle.race_board.proofs.board.RaceBoard.list.Given as goal

abbrev pub invariant-loop-slot : goal.invariant-loop-slot
invariant-loop-slot g l = record {
  table : l.seat.place.table_id ≡ l.fn.seat.place.table_id;
  parent : l.parent ≡ (ban l.fn.seat.place.me.0 l.place).parent;
  cancel : l.cancel ≡ (ban l.fn.seat.place.me.0 l.place).cancel;
  inside : l.place < length l.fn.seat.place.me.0.bans;
  on : Listing l.fn.seat.place.me.0 l.seat.place.me.0 l.place l.slot (l.fn.seat.place.me.0.marked ++ new_to l.fn.seat.place.me.0 (take l.count l.found));
  same : SameFrom l.fn.seat.place.me.0 l.seat.place.me.0 l.slot;
  handed : HandsOver l.fn.seat.place.me.0 l.seat.place.me.0 l.parent l.cancel l.slot (take l.count l.found);
  longer : Longer l.fn.seat.place.me.0 l.seat.place.me.0;
  walks : Walks (lists l.place l.cancel) l.fn.seat.place.me.0 l.seat.place.me.0 (marks_with l.cancel (new_to l.fn.seat.place.me.0 (take l.count l.found)) ++ done_at l.self.words.size l.place l.slot);
  few : l.count ≤ l.slot;
  room : length l.found ≡ l.self.words.size.slots;
}
