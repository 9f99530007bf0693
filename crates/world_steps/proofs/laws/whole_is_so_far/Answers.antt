use Rattle.std.proofs.Common.{inl, inr, refl}
use Rattle.world_steps.proofs.laws.whole_is_so_far.Goals as goal

-- its last first move is whole
pub returns : goal.returns
returns c = λ cluster corpus script h run.
    let drained = run.2.1 in
    inr (run.0, run.1, inr (drained.0, drained.1, drained.2, (drained.3.1.0, h, drained.3.1.1, inl refl)))
