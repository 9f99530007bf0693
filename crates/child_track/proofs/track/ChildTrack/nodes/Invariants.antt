use Rattle.std.proofs.Common.{◌≡◌, ℕ, ◌&&◌, nat_lt}
use Rattle.child_track.specs.NodeSet.{has_node}
use Rattle.child_track.specs.Track.{is_awaited}
use Rattle.child_track.proofs.track.ChildTrack.nodes.Given as goal

abbrev pub invariant-loop-node : goal.invariant-loop-node
invariant-loop-node l = (n : ℕ) → has_node l.nodes n ≡ (nat_lt n l.node && is_awaited l.self n)
