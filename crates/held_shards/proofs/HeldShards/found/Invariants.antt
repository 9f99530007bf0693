use Rattle.std.proofs.Common.{◌≡◌, ◌<◌, ℕ, false, get_or}
use Rattle.held_shards.specs.Held.{is_row, no_row}
use Rattle.held_shards.proofs.HeldShards.found.Given as goal

-- none of the rows that were passed is the one that is looked for
abbrev pub invariant-loop-row : goal.invariant-loop-row
invariant-loop-row l = record {
  at : l.place ≡ l.row-index;
  none : (k : ℕ) → k < l.row-index → is_row l.fn.index l.fn.number (get_or l.fn.self.rows.items k no_row) ≡ false;
}
