use Rattle.std.proofs.Common.{◌≡◌, []}
use Rattle.race_board.specs.Kinds.{claims}
use Rattle.race_board.specs.Walks.{Walks}
use Rattle.race_board.specs.Calls.{Longer, OnlySteps, SawFull}
use Rattle.race_board.proofs.board.RaceBoard.take_slot.Given as goal

abbrev pub invariant-loop-slot : goal.invariant-loop-slot
invariant-loop-slot g l = record {
  table : l.seat.place.table_id ≡ l.fn.seat.place.table_id;
  only : OnlySteps l.fn.seat.place.me.0 l.seat.place.me.0;
  longer : Longer l.fn.seat.place.me.0 l.seat.place.me.0;
  walks : Walks (claims l.word) l.fn.seat.place.me.0 l.seat.place.me.0 [];
  full : SawFull l.fn.seat.place.me.0 l.seat.place.me.0 l.slot;
}
