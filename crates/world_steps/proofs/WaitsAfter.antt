-- Once all has settled, each live task waits for a moment or stands above a live task that does.
use Rattle.std.proofs.Common.{◌≤◌, length}
use Rattle.world_moves.specs.declared.state.State.{State}
use Rattle.world_moves.specs.Ties.{IsTied, Keeps}
use Rattle.world_steps.specs.Runs.{IsSettled}
use Rattle.world_steps.specs.Waits.{EachWaits}
use Rattle.world_steps.proofs.Emptying.{kept_as}
use Rattle.world_steps.proofs.Resting.{each_waits}

pub waits_there : (start now : State) → Keeps start now → IsTied now → length now.history ≤ 4000000 → IsSettled start.cluster start.corpus.now start.script.now now.history → EachWaits start.cluster start.corpus.now start.script.now now.history
waits_there start now keeps tied room settled =
    kept_as (λ x y z. IsSettled x y z now.history → EachWaits x y z now.history) start now keeps
    (λ rests. each_waits now.cluster now.corpus.now now.script.now now.history _ _ _ tied.ties room rests) settled
