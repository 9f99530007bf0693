-- Equal ids, as a test and as a fact.
use Rattle.std.proofs.Common.{◌≡◌, ℕ, List, Bool, true, false, sym, ⊎_elim, inl, inr, ◌⊎◌, ◌∙◌, true≢false}
use Rattle.std.proofs.lemmas.Bool.{cases_Bool, false_from_ne_true}
use Rattle.std.proofs.lemmas.Slice.Eq.{bytes_eq-Decides}
use Rattle.std.specs.Str.{bytes_eq}

clash : (t : Bool) → t ≡ false → t ≡ true → ⊥
clash t is_false is_true = true≢false (sym is_true ∙ is_false)

-- two texts are one, or both tests between them fail
pub same_or_other : (a b : List ℕ) → ((bytes_eq a b ≡ true) × (bytes_eq b a ≡ true) × (a ≡ b)) ⊎ ((bytes_eq a b ≡ false) × (bytes_eq b a ≡ false))
same_or_other a b =
    ⊎_elim
    (λ yes. let one = (bytes_eq-Decides a b).0 yes in inl (yes, (bytes_eq-Decides b a).1 (sym one), one))
    (λ apart. inr (apart, false_from_ne_true (bytes_eq b a) (λ yes. clash (bytes_eq a b) apart ((bytes_eq-Decides a b).1 (sym ((bytes_eq-Decides b a).0 yes))))))
    (cases_Bool (bytes_eq a b))
