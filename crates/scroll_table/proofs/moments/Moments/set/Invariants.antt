-- Each node stands above its two but the one above the node that was written last.
use Rattle.std.proofs.Common.{◌≡◌, ◌≢◌, ℕ, ◌*◌, ◌/◌, ◌<◌, ◌≤◌, length, ◌==◌, cond}
use Rattle.scroll_table.specs.Moments.{moment_at, IsAbove}
use Rattle.scroll_table.proofs.moments.Moments.set.Given as goal

abbrev pub invariant-loop-at : goal.invariant-loop-at
invariant-loop-at l = record {
  places : l.self.places ≡ l.fn.self.places;
  sized : length l.self.nodes.items ≡ 2 * l.self.places;
  from : 1 ≤ l.at;
  within : l.at < 2 * l.self.places;
  above : (i : ℕ) → 1 ≤ i → i < l.self.places → i ≢ l.at / 2 → IsAbove l.self.nodes.items i;
  set : (q : ℕ) → q < l.self.places → moment_at l.self q ≡ cond (q == l.fn.place) l.fn.moment (moment_at l.fn.self q);
}

abbrev pub decreases-loop-at : goal.decreases-loop-at
decreases-loop-at l = l.at
