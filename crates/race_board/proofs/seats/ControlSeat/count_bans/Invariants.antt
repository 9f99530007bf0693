use Rattle.std.proofs.Common.{◌≡◌, ◌≤◌, take, count_by}
use Rattle.race_board.specs.Closing.{is_banned}
use Rattle.race_board.proofs.seats.ControlSeat.count_bans.Given as goal

abbrev pub invariant-loop-place : goal.invariant-loop-place
invariant-loop-place g l = record {
  count : l.count ≡ count_by is_banned (take l.place l.self.place.me.0.bans);
  few : l.count ≤ l.place;
}
