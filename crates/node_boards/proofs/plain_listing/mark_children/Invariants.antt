-- The slots before this one were passed, and their numbers stand at the beginning of what is found.
use Rattle.std.proofs.Common.{◌≡◌, ◌≤◌, length, take}
use Rattle.node_boards.specs.PlainLists.{handed_below, Passed}
use Rattle.node_boards.proofs.plain_listing.mark_children.Given as goal

abbrev pub invariant-loop-i : goal.invariant-loop-i
invariant-loop-i g l = record {
  within : l.count ≤ l.i;
  handed : take l.count l.found ≡ handed_below l.ban l.fn.table l.fn.marked l.i;
  passed : Passed l.ban l.fn.table l.fn.marked l.i l.table l.marked;
}
