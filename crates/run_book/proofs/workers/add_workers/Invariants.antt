-- The first workers of the node are there.
use Rattle.std.proofs.Common.{◌≡◌, ◌++◌}
use Rattle.run_book.specs.Posts.{workers_on}
use Rattle.run_book.proofs.workers.add_workers.Given as goal

abbrev pub invariant-loop-worker : goal.invariant-loop-worker
invariant-loop-worker l = l.all.items ≡ l.initial.all.items ++ workers_on l.node l.worker
