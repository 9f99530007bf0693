use Rattle.std.proofs.Common.{◌≡◌, length}
use Rattle.cancel_core.specs.Fields.{map_of}
use Rattle.cancel_core.specs.Listings.{taken_back}
use Rattle.cancel_core.proofs.listings.take_back.Given as goal

abbrev pub decreases-loop-child : goal.decreases-loop-child
decreases-loop-child l = length l.fresh.items

abbrev pub invariant-loop-child : goal.invariant-loop-child
invariant-loop-child l = taken_back l.fresh.items (map_of l.waits) ≡ taken_back l.fn.fresh.items (map_of l.fn.waits)
