-- What is left to begin leads to all.
use Rattle.std.proofs.Common.{◌≡◌, drop, All}
use Rattle.task_ids.specs.declared.task_id.TaskId.{TaskId}
use Rattle.control_worker.specs.View.{view_of}
use Rattle.control_worker.specs.Steps.{Each, Moment, Makes, at}
use Rattle.control_worker.specs.Bans.{BeginsChild}
use Rattle.control_worker.specs.Together.{Together}
use Rattle.control_worker.proofs.listing.begin_each.Given as goal

abbrev pub invariant-loop-child : goal.invariant-loop-child
invariant-loop-child g l = record {
  together : Together (g.B.ControlBoard.bans l.board) (g.B.ControlBoard.slots l.board) g.N.BoardName.allowed (view_of l.core);
  marked : All (λ (t : TaskId). g.B.ControlBoard.marked l.board t.number) l.children;
  listings : l.core.cancels.listings ≡ l.fn.core.cancels.listings;
  kept : l.core.kept ≡ l.fn.core.kept;
  left : (t : Moment g.row.B.Denot)
      → Makes g.B.ControlBoard.rests (Each (BeginsChild l.cancel) (drop l.child-index l.children)) (at l.board l.core l.acts.items) t
      → Makes g.B.ControlBoard.rests (Each (BeginsChild l.cancel) l.children) (at l.fn.board l.fn.core l.fn.acts.items) t;
}
