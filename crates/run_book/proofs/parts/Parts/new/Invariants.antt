-- The nodes so far have told nothing.
use Rattle.std.proofs.Common.{◌≡◌}
use Rattle.run_book.specs.Told.{nothing_told}
use Rattle.run_book.proofs.parts.Parts.new.Given as goal

abbrev pub invariant-loop-before : goal.invariant-loop-before
invariant-loop-before g l = l.parts.items ≡ nothing_told l.before
