-- Lists that are joined over the numbers from 1 to n.
use Rattle.std.proofs.Common.{◌≡◌, ◌≤◌, ℕ, zero, suc, List, [], ◌++◌, refl, sym, ◌∙◌, arith}
use Rattle.std.specs.List.{flat_map}
use Rattle.std.proofs.lemmas.List.{flat_map_more}
use Rattle.task_events.specs.Asks.{up_to}

module _ {Y : Type 0} where
  -- the last number comes last
  pub flat_last : (f : ℕ → List Y) (n : ℕ) → flat_map f (up_to (suc n)) ≡ flat_map f (up_to n) ++ f (suc n)
  flat_last f n = sym (flat_map_more f [] (up_to n) (suc n))

  pub flats_agree : (f g : ℕ → List Y) (n : ℕ) → ((k : ℕ) → 1 ≤ k → k ≤ n → f k ≡ g k) → flat_map f (up_to n) ≡ flat_map g (up_to n)
  flats_agree f g zero each = refl
  flats_agree f g (suc n) each =
      flat_last f n ∙ (λ i. flats_agree f g n (λ k low high. each k low (omega (arith, high))) i ++ each (suc n) (omega arith) (omega arith) i) ∙ sym (flat_last g n)

  pub no_flat : (f : ℕ → List Y) (n : ℕ) → ((k : ℕ) → 1 ≤ k → k ≤ n → f k ≡ []) → flat_map f (up_to n) ≡ []
  no_flat f zero each = refl
  no_flat f (suc n) each = flat_last f n ∙ (λ i. no_flat f n (λ k low high. each k low (omega (arith, high))) i ++ each (suc n) (omega arith) (omega arith) i)
