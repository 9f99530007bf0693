use Rattle.std.proofs.Common.{◌≡◌, []}
use Rattle.race_board.specs.Kinds.{marks}
use Rattle.race_board.specs.Walks.{Walks}
use Rattle.race_board.specs.Calls.{Longer, OnlySteps}
use Rattle.race_board.specs.Lists.{SawNone}
use Rattle.race_board.proofs.board.RaceBoard.mark.Given as goal

abbrev pub invariant-loop-slot : goal.invariant-loop-slot
invariant-loop-slot g l = record {
  table : l.seat.place.table_id ≡ l.fn.seat.place.table_id;
  only : OnlySteps l.fn.seat.place.me.0 l.seat.place.me.0;
  longer : Longer l.fn.seat.place.me.0 l.seat.place.me.0;
  walks : Walks (marks l.cancel) l.fn.seat.place.me.0 l.seat.place.me.0 [];
  none : SawNone l.fn.seat.place.me.0 l.seat.place.me.0 l.slot l.number;
}
