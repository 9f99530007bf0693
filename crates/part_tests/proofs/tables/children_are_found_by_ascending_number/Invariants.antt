use Rattle.std.proofs.Common.{◌≡◌, ◌+◌, length}
use Rattle.part_tests.proofs.tables.children_are_found_by_ascending_number.Given as goal

abbrev pub invariant-loop-number : goal.invariant-loop-number
invariant-loop-number g l = (length l.track.asks + 1 ≡ l.number) × (l.track.task ≡ l.parent)
