use Rattle.std.proofs.Common.{◌≡◌, ◌++◌, take}
use Rattle.world_moves.specs.Listings.{children_among}
use Rattle.world_moves.proofs.rows.add_children.Given as goal

abbrev pub invariant-loop-row : goal.invariant-loop-row
invariant-loop-row l = l.found.items ≡ l.initial.found.items ++ children_among l.parent (take l.row-index l.rows)
