-- What holds, or does not.
use Rattle.std.proofs.Common.{◌≡◌, ◌⊎◌, inl, inr, ℕ, Bool, true, false, List, [], ◌∷◌, Option, None, Some, refl, ap}
use Rattle.std.specs.Prelude.{◌↔◌, IsTrue}
use Rattle.std.proofs.lemmas.Bool.{cases_eq}

-- it holds, or it does not
abbrev pub Decided : Type 0 → Type 0
Decided P = P ⊎ (P → ⊥)

pub both : {P Q : Type 0} → Decided P → Decided Q → Decided (P × Q)
both (inl p) (inl q) = inl (p, q)
both (inl p) (inr never) = inr (λ r. never r.1)
both (inr never) q = inr (λ r. never r.0)

pub decided_true : (b : Bool) → Decided (b ≡ true)
decided_true true = inl refl
decided_true false = inr (λ e. cc)

pub decided_some : {A : Type 0} → ((a b : A) → Decided (a ≡ b)) → (o : Option A) (a : A) → Decided (o ≡ Some a)
decided_some decide None a = inr (λ e. cc)
decided_some decide (Some b) a = elim (decide b a) [
  | inl e ↦ inl (ap Some e)
  | inr never ↦ inr (λ e. never (cc))
]

pub both_three : {P Q R : Type 0} → Decided P → Decided Q → Decided R → Decided (P × Q × R)
both_three (inl p) (inl q) (inl r) = inl (p, q, r)
both_three (inl p) (inl q) (inr never) = inr (λ t. never t.2)
both_three (inl p) (inr never) r = inr (λ t. never t.1)
both_three (inr never) q r = inr (λ t. never t.0)

-- what a test tells
pub decided_by : {P : Type 0} (b : Bool) → (IsTrue b ↔ P) → Decided P
decided_by true told = inl (told.0 refl)
decided_by false told = inr (λ p. (let e = told.1 p in cc))

pub decided_number : (a b : ℕ) → Decided (a ≡ b)
decided_number a b = elim (cases_eq a b) [
  | inl e ↦ inl e
  | inr other ↦ inr other
]

pub decided_option : {A : Type 0} → ((a b : A) → Decided (a ≡ b)) → (o p : Option A) → Decided (o ≡ p)
decided_option decide None None = inl refl
decided_option decide None (Some b) = inr (λ e. cc)
decided_option decide (Some a) None = inr (λ e. cc)
decided_option decide (Some a) (Some b) = elim (decide a b) [
  | inl e ↦ inl (ap Some e)
  | inr never ↦ inr (λ e. never (cc))
]

pub decided_list : {A : Type 0} → ((a b : A) → Decided (a ≡ b)) → (xs ys : List A) → Decided (xs ≡ ys)
decided_list decide [] [] = inl refl
decided_list decide [] (y ∷ ys) = inr (λ e. cc)
decided_list decide (x ∷ xs) [] = inr (λ e. cc)
decided_list decide (x ∷ xs) (y ∷ ys) = elim (both (decide x y) (decided_list decide xs ys)) [
  | inl same ↦ inl (λ i. same.0 i ∷ same.1 i)
  | inr never ↦ inr (λ e. never (cc, cc))
]
