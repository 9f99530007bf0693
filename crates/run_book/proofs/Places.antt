-- What stands at the places of a list that is changed at one of them, or that one more is put to.
use Rattle.std.proofs.Common.{◌≡◌, ℕ, zero, suc, ◌<◌, List, [], ◌∷◌, ◌++◌, length, set, Some, refl, ap, arith}
use Rattle.std.specs.Prelude.{slice_get}

module _ {A : Type 0} where
  -- what is put where it stands changes nothing
  pub same_set : (xs : List A) (i : ℕ) (x : A) → slice_get xs i ≡ Some x → set xs i x ≡ xs
  same_set [] i x there = refl
  same_set (y ∷ ys) zero x there = let same : x ≡ y = cc in rw same refl
  same_set (y ∷ ys) (suc i) x there = rw (same_set ys i x there) refl

  -- what stands where something was put
  pub put_there : (xs : List A) (i : ℕ) (x y : A) → slice_get (set xs i x) i ≡ Some y → y ≡ x
  put_there [] i x y there = absurd (cc)
  put_there (z ∷ zs) zero x y there = cc
  put_there (z ∷ zs) (suc i) x y there = put_there zs i x y there

  -- and what stands elsewhere
  pub put_elsewhere : (xs : List A) (i j : ℕ) (x : A) → (j ≡ i → ⊥) → slice_get (set xs i x) j ≡ slice_get xs j
  put_elsewhere [] i j x apart = refl
  put_elsewhere (z ∷ zs) zero zero x apart = absurd (apart refl)
  put_elsewhere (z ∷ zs) zero (suc j) x apart = refl
  put_elsewhere (z ∷ zs) (suc i) zero x apart = refl
  put_elsewhere (z ∷ zs) (suc i) (suc j) x apart = put_elsewhere zs i j x (λ e. apart (ap suc e))

  pub length_kept : (xs : List A) (i : ℕ) (x : A) → length (set xs i x) ≡ length xs
  length_kept [] i x = refl
  length_kept (z ∷ zs) zero x = refl
  length_kept (z ∷ zs) (suc i) x = ap suc (length_kept zs i x)

  -- one more stands at the end
  pub at_end : (xs : List A) (y : A) → slice_get (xs ++ y ∷ []) (length xs) ≡ Some y
  at_end [] y = refl
  at_end (x ∷ xs) y = at_end xs y

  pub before_end : (xs : List A) (y : A) (i : ℕ) → i < length xs → slice_get (xs ++ y ∷ []) i ≡ slice_get xs i
  before_end [] y i inside = absurd (omega (arith, inside))
  before_end (x ∷ xs) y zero inside = refl
  before_end (x ∷ xs) y (suc i) inside = before_end xs y i (omega (arith, inside))

  pub past_end : (xs : List A) (y z : A) (i : ℕ) → length xs < i → slice_get (xs ++ y ∷ []) i ≡ Some z → ⊥
  past_end [] y z zero past there = omega (arith, past)
  past_end [] y z (suc i) past there = absurd (cc)
  past_end (x ∷ xs) y z zero past there = omega (arith, past)
  past_end (x ∷ xs) y z (suc i) past there = past_end xs y z i (omega (arith, past)) there
