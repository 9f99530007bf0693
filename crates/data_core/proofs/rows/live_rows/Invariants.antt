-- The rows of the live tasks up to this one are there, and each next one has a higher number.
use Rattle.std.specs.Prelude.{All}
use Rattle.node_link.specs.Lawful.{IsLawfulRow}
use Rattle.run_facts.specs.Cancels.{cancels_of}
use Rattle.entry_facts.specs.Entries.{IsCoreOfRun}
use Rattle.data_core.specs.Cores.{IsSound, SameSelf}
use Rattle.data_core.specs.Turns.{OnlyTasks}
use Rattle.data_core.proofs.Listed.{ListedSoFar, above}
use Rattle.data_core.proofs.rows.live_rows.Given as goal

abbrev pub invariant-loop-task : goal.invariant-loop-task
invariant-loop-task g l = record {
  sound : IsSound (cancels_of g.W.Run.cancels) (g.B.DataBoard.node l.board) (g.B.DataBoard.has l.board) (g.B.DataBoard.drawn l.board) (g.B.DataBoard.clear l.board) l.core;
  of_run : IsCoreOfRun g.W.Run.setting l.core.cluster.shards l.core.shards l.core.live;
  own : SameSelf l.fn.core l.core;
  rest : OnlyTasks l.fn.core l.core;
  lawful : All (IsLawfulRow (cancels_of g.W.Run.cancels)) l.rows.items;
  listed : ListedSoFar g.B.DataBoard.rests l.fn.board l.fn.core.live l.after l.rows.items l.core.live l.board;
}

abbrev pub decreases-loop-task : goal.decreases-loop-task
decreases-loop-task g l = above l.after
