-- What is left to try leads to all, and there is less of it each time.
use Rattle.std.proofs.Common.{length}
use Rattle.control_worker.specs.View.{view_of}
use Rattle.control_worker.specs.Steps.{Moment, Makes, at}
use Rattle.control_worker.specs.Bans.{Tries}
use Rattle.control_worker.specs.Together.{Together}
use Rattle.control_worker.proofs.bans.put_kept.Given as goal

abbrev pub invariant-loop : goal.invariant-loop
invariant-loop g l = record {
  together : Together (g.B.ControlBoard.bans l.board) (g.B.ControlBoard.slots l.board) g.N.BoardName.allowed (view_of l.core);
  left : (t : Moment g.row.B.Denot)
      → Makes g.B.ControlBoard.rests (Tries l.core.kept.items) (at l.board l.core l.acts.items) t
      → Makes g.B.ControlBoard.rests (Tries l.fn.core.kept.items) (at l.fn.board l.fn.core l.fn.acts.items) t;
}

abbrev pub decreases-loop : goal.decreases-loop
decreases-loop g l = length l.core.kept.items
