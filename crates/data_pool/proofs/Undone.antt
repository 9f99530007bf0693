-- A worker that had not given its part has not again.
use Rattle.std.proofs.Common.{◌≡◌, ℕ, zero, suc, Bool, true, false, not, List, [], ◌∷◌, set, ap, refl}
use Rattle.std.specs.Prelude.{slice_get}
use Rattle.std.specs.Option.{option_map_or}

pub undone : (given : List Bool) (worker : ℕ) → option_map_or not (slice_get given worker) false ≡ true → set (set given worker true) worker false ≡ given
undone [] worker h = absurd cc
undone (true ∷ given) zero h = absurd cc
undone (false ∷ given) zero h = refl
undone (b ∷ given) (suc worker) h = ap (λ (l : List Bool). b ∷ l) (undone given worker h)
