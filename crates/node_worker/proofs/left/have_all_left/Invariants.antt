-- Those so far have.
use Rattle.std.proofs.Common.{◌≡◌, ◌≤◌, ◌<◌, ℕ, true}
use Rattle.child_track.specs.NodeSet.{has_node}
use Rattle.node_worker.proofs.left.have_all_left.Given as goal

abbrev pub invariant-loop-one : goal.invariant-loop-one
invariant-loop-one l = (n : ℕ) → 1 ≤ n → n < l.one → has_node l.left n ≡ true
