use Rattle.std.proofs.Common.{◌≡◌, ◌+◌, ◌-◌, ◌≤◌, length, take}
use Rattle.ranked.specs.Pieces.{joined}
use Rattle.ranked.proofs.pieces.spot_of.Given as goal

abbrev pub invariant-loop-at : goal.invariant-loop-at
invariant-loop-at g l = record {
  in_range : l.at ≤ length l.pieces.items;
  before : length (joined (take l.at l.pieces.items)) + l.left ≡ l.nth;
}

abbrev pub decreases-loop-at : goal.decreases-loop-at
decreases-loop-at g l = length l.pieces.items - l.at
