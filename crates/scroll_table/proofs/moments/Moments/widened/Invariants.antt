-- The moments so far are the same, and the others are none.
use Rattle.std.proofs.Common.{◌≡◌, ℕ, ◌<◌, ◌≤◌, None}
use Rattle.scroll_table.specs.Moments.{moment_at, IsTree}
use Rattle.scroll_table.proofs.moments.Moments.widened.Given as goal

abbrev pub invariant-loop-place : goal.invariant-loop-place
invariant-loop-place l = record {
  tree : IsTree l.more;
  places : l.more.places ≡ l.fn.places;
  same : (q : ℕ) → q < l.place → moment_at l.more q ≡ moment_at l.self q;
  spare : (q : ℕ) → l.place ≤ q → q < l.fn.places → moment_at l.more q ≡ None;
}
