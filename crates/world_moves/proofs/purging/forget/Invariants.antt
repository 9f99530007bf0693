use Rattle.std.proofs.Common.{◌≤◌, length}
use Rattle.world_moves.specs.Purging.{IsButShards}
use Rattle.world_moves.specs.Ties.{IsTied}
use Rattle.world_moves.proofs.PurgedTies.{HasForgottenBut}
use Rattle.world_moves.proofs.purging.forget.Given as goal

-- the shards that were gone over have forgotten
abbrev pub invariant-loop-left : goal.invariant-loop-left
invariant-loop-left l = record {
  tied : IsTied l.state;
  same : IsButShards l.fn.state l.state;
  within : l.left ≤ length l.state.shards.stale.items;
  forgotten : HasForgottenBut l.left l.state.contexts.items l.state.shards;
}

abbrev pub decreases-loop-left : goal.decreases-loop-left
decreases-loop-left l = l.left
