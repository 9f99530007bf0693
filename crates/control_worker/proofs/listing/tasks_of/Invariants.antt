-- The tasks so far have the numbers so far.
use Rattle.std.proofs.Common.{take}
use Rattle.control_worker.specs.Bans.{AreTasks}
use Rattle.control_worker.proofs.listing.tasks_of.Given as goal

abbrev pub invariant-loop-number : goal.invariant-loop-number
invariant-loop-number l = AreTasks l.node (take l.number-index l.numbers) l.tasks.items
