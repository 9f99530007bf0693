-- What holds of each two at one place, and of two more.
use Rattle.std.proofs.Common.{◌≡◌, ℕ, List, [], ◌∷◌, ◌++◌, length, Some, sym, subst, ⊎_elim, arith}
use Rattle.std.specs.Prelude.{slice_get}
use Rattle.std.proofs.lemmas.Option.{slice_get_within}
use Rattle.node_link.proofs.Counts.{get_new}

pub each_two : {A B : Type 0} (P : ℕ → A → B → Type 0) (xs : List A) (ys : List B) (x : A) (y : B) → length xs ≡ length ys
    → ((k : ℕ) (a : A) (b : B) → slice_get xs k ≡ Some a → slice_get ys k ≡ Some b → P k a b) → P (length xs) x y
    → (k : ℕ) (a : A) (b : B) → slice_get (xs ++ x ∷ []) k ≡ Some a → slice_get (ys ++ y ∷ []) k ≡ Some b → P k a b
each_two {A = A} {B = B} P xs ys x y same old new k a b at there = ⊎_elim
    (λ (t : slice_get xs k ≡ Some a). ⊎_elim
    (λ (u : slice_get ys k ≡ Some b). old k a b t u)
    (λ (u : (k ≡ length ys) × (y ≡ b)). let low = slice_get_within xs k a t in let e = u.0 in absurd (omega arith))
    (get_new ys y k b there))
    (λ (t : (k ≡ length xs) × (x ≡ a)). ⊎_elim
    (λ (u : slice_get ys k ≡ Some b). let low = slice_get_within ys k b u in let e = t.0 in absurd (omega arith))
    (λ (u : (k ≡ length ys) × (y ≡ b)). subst (λ n. P n a b) (sym t.0) (subst (λ v. P (length xs) v b) t.1 (subst (λ v. P (length xs) x v) u.1 new)))
    (get_new ys y k b there))
    (get_new xs x k a at)
