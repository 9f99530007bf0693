-- The workers of the first nodes are there.
use Rattle.std.proofs.Common.{◌≡◌}
use Rattle.run_book.specs.Posts.{data_workers}
use Rattle.run_book.proofs.workers.data_workers.Given as goal

abbrev pub invariant-loop-before : goal.invariant-loop-before
invariant-loop-before l = l.all.items ≡ data_workers l.before l.workers
