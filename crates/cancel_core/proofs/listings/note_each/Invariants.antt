use Rattle.std.proofs.Common.{◌≡◌, ◌+◌, length, drop}
use Rattle.cancel_core.specs.Fields.{map_of}
use Rattle.cancel_core.specs.Listings.{noted, number_noted, taken_back}
use Rattle.cancel_core.proofs.listings.note_each.Given as goal

-- with what is still to be noted it is all, and taken back it is nothing
abbrev pub invariant-loop-child : goal.invariant-loop-child
invariant-loop-child l = record {
  waits : noted (map_of l.entries) l.parent (drop l.child-index l.children) (map_of l.waits) ≡ noted (map_of l.entries) l.parent l.children (map_of l.fn.waits);
  number : length l.fresh.items + number_noted (map_of l.entries) l.parent (drop l.child-index l.children) (map_of l.waits) ≡ number_noted (map_of l.entries) l.parent l.children (map_of l.fn.waits);
  back : taken_back l.fresh.items (map_of l.waits) ≡ map_of l.fn.waits;
}
