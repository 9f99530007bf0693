use Rattle.std.proofs.Common.{◌≡◌, ◌≤◌, ◌*◌, ◌++◌, length}
use Rattle.race_board.specs.Closing.{all_tickets, greatest_drawn}
use Rattle.race_board.proofs.board.RaceBoard.close.Given as goal

abbrev pub invariant-loop-seat : goal.invariant-loop-seat
invariant-loop-seat g l = record {
  next : (goal.iterator-loop-seat g).can_next l.seat-iterator;
  finite : (goal.iterator-loop-seat g).is_finite l.seat-iterator;
  table : l.place.table_id ≡ l.self.words.table.shared.table_id;
  lead : l.place.me.0.lead ≡ 1;
  bans : l.place.me.0.bans ≡ l.fn.control.place.me.0.bans;
  whole : (l.place.me.0.to_deal ≡ 0) × (l.place.me.0.joined ≡ length l.yielded) × (l.place.me.0.taken ≡ l.live);
  live : l.live ≡ all_tickets l.yielded;
  few : l.live ≤ 1024 * length l.yielded;
  drawn : l.drawn ≡ greatest_drawn l.yielded;
  rest : l.yielded ++ l.seat-iterator.rest.items ≡ l.fn.seats.items;
}
