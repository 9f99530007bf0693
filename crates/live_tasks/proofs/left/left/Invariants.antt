-- No node before this one is in the first set alone.
use Rattle.std.proofs.Common.{◌≡◌, ℕ, ◌<◌, ◌≤◌, true}
use Rattle.child_track.specs.NodeSet.{has_node}
use Rattle.live_tasks.proofs.left.left.Given as goal

abbrev pub invariant-loop-node : goal.invariant-loop-node
invariant-loop-node l = (n : ℕ) → 1 ≤ n → n < l.node → has_node l.before n ≡ true → has_node l.after n ≡ true
