-- The cancellations of a run.
use Rattle.std.specs.Prelude.{ℕ}
use Rattle.task_ids.specs.Limits.{IsCancel}

-- the run has a cancellation of this number, which is in range
abbrev pub cancels_of : (ℕ → Type 0) → ℕ → Type 0
cancels_of cancels c = IsCancel c × cancels c
