-- A cut that is empty says that all has been cut off.
use Rattle.std.proofs.Common.{◌≡◌, ℕ, zero, suc, true, List, [], ◌∷◌, ◌++◌, refl, ap, ◌∙◌}
use Rattle.std.specs.Prelude.{nat_le, take, drop}
use Rattle.std.specs.List.{list_any}
use Rattle.std.proofs.lemmas.List.{take-append-drop}
use Rattle.world_steps.specs.PagesFollow.{cuts, shows_none, joined}

module _ {X : Type 0} where
  none_left : (size n : ℕ) (xs : List X) → xs ≡ [] → joined (cuts size n xs) ≡ []
  none_left size zero xs e = refl
  none_left zero (suc n) xs e = none_left zero n xs e
  none_left (suc size) (suc n) [] e = none_left (suc size) n [] refl
  none_left (suc size) (suc n) (x ∷ xs) e = absurd (cc)

  pub all_cut : (size n : ℕ) (xs : List X) → nat_le 1 size ≡ true → list_any shows_none (cuts size n xs) ≡ true → joined (cuts size n xs) ≡ xs
  all_cut zero n xs some e = absurd (cc)
  all_cut (suc size) zero xs some e = absurd (cc)
  all_cut (suc size) (suc n) [] some e = none_left (suc size) n [] refl
  all_cut (suc size) (suc n) (x ∷ xs) some e =
      ap (λ (l : List X). x ∷ take size xs ++ l) (all_cut (suc size) n (drop size xs) some e) ∙ ap (λ (l : List X). x ∷ l) (take-append-drop size xs)
