-- What is left to seek leads to all, with what was found before in front.
use Rattle.std.proofs.Common.{◌++◌, drop, List}
use Rattle.task_ids.specs.declared.task_id.TaskId.{TaskId}
use Rattle.control_worker.specs.View.{view_of}
use Rattle.control_worker.specs.Steps.{Moment, at}
use Rattle.control_worker.specs.Matches.{SeeksEach}
use Rattle.control_worker.specs.Together.{Together}
use Rattle.control_worker.proofs.matches.cancel_each.Given as goal

abbrev pub invariant-loop-row : goal.invariant-loop-row
invariant-loop-row g l = record {
  together : Together (g.B.ControlBoard.bans l.board) (g.B.ControlBoard.slots l.board) g.N.BoardName.allowed (view_of l.core);
  left : (t : Moment g.row.B.Denot) (more : List TaskId)
      → SeeksEach g.B.ControlBoard.rests l.waiter (drop l.row-index l.rows) more (at l.board l.core l.acts.items) t
      → SeeksEach g.B.ControlBoard.rests l.waiter l.rows (l.found.items ++ more) (at l.fn.board l.fn.core l.fn.acts.items) t;
}
