-- Values of an exact total order that are not above each other are one.
use Rattle.std.proofs.Common.{◌≡◌, true, refl, ap, ◌∙◌}
use Rattle.std.specs.Cmp.{IsTotalOrder}
use Rattle.std.specs.Ordering.{is_le, ordering_reverse}
use Rattle.std.specs.declared.cmp.Ordering.{Ordering}
use Rattle.std.specs.declared.cmp.Ordering.TheVariants.{Less, Equal, Greater}
use Rattle.std.proofs.lemmas.Map.Lookups.{CmpEqualImpliesEq}

pub one_value : {X : Type 0} (R : X → X → Ordering) → IsTotalOrder R → CmpEqualImpliesEq R → (a b : X) → is_le (R a b) ≡ true → is_le (R b a) ≡ true → a ≡ b
one_value R total exact a b le ge = by_order (R a b) refl
  where
    by_order : (o : Ordering) → R a b ≡ o → a ≡ b
    by_order Equal e = exact a b e
    by_order Less e = absurd (let turned : R b a ≡ Greater = total.antisymm b a ∙ ap ordering_reverse e in cc)
    by_order Greater e = absurd (cc)
