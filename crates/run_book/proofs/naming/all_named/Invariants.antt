-- The tasks of the nodes so far are there.
use Rattle.std.proofs.Common.{◌≡◌, take}
use Rattle.run_book.specs.Told.{all_told}
use Rattle.run_book.proofs.naming.all_named.Given as goal

abbrev pub invariant-loop-part : goal.invariant-loop-part
invariant-loop-part l = l.all ≡ all_told (take l.part-index l.parts)
