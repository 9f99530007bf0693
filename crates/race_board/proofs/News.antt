-- Which numbers a seat has not marked.
use Rattle.std.proofs.Common.{◌≡◌, ℕ, ◌⊎◌, ◌||◌, not, cond, eqb, eq-eqb, ne_eqb, Bool, true, false, List, [], ◌∷◌, ◌++◌, sym, refl, ap, ◌∙◌, subst, ⊎_elim, inl, inr}
use Rattle.std.specs.List.{list_any}
use Rattle.std.proofs.lemmas.List.Elements.{filter-append}
use mathlib.Core.Logic.{dite}
use native.Mathlib.Decide.{ℕ_discrete}
use Rattle.race_board.specs.Board.{In}
use Rattle.race_board.specs.Lists.{has_marked, new_to}
use Rattle.race_board.specs.declared.views.View.{View}
use Rattle.race_board.proofs.Controls.{in_front}
use Rattle.race_board.proofs.Known.{in_behind}

-- a number is in the list or not, and the test tells
abbrev pub Told : ℕ → List ℕ → Type 0
Told n l = (In n l × (list_any (λ m. eqb n m) l ≡ true)) ⊎ ((¬ In n l) × (list_any (λ m. eqb n m) l ≡ false))

pub told : (n : ℕ) (l : List ℕ) → Told n l
told n [] = inr ((λ h. h), refl)
told n (x ∷ xs) = dite (ℕ_discrete n x)
    (λ e. inl (inl e, ap (λ b. b || list_any (λ m. eqb n m) xs) (eq-eqb n x e)))
    (λ f. let first : (eqb n x || list_any (λ m. eqb n m) xs) ≡ list_any (λ m. eqb n m) xs = ap (λ b. b || list_any (λ m. eqb n m) xs) (ne_eqb n x f) in
    ⊎_elim (λ (t : In n xs × (list_any (λ m. eqb n m) xs ≡ true)). inl (inr t.0, first ∙ t.1))
    (λ (t : (¬ In n xs) × (list_any (λ m. eqb n m) xs ≡ false)). inr ((λ h. ⊎_elim (λ (e : n ≡ x). f e) (λ (a : In n xs). t.0 a) h), first ∙ t.1)) (told n xs))

pub new_known : (v : View) (n : ℕ) → In n v.marked → new_to v (n ∷ []) ≡ []
new_known v n known = ⊎_elim
    (λ (t : In n v.marked × (has_marked v n ≡ true)). ap (λ b. let l : List ℕ = cond (not b) (n ∷ []) [] in l) t.1)
    (λ (t : (¬ In n v.marked) × (has_marked v n ≡ false)). absurd (t.0 known)) (told n v.marked)

pub new_fresh : (v : View) (n : ℕ) → ¬ In n v.marked → new_to v (n ∷ []) ≡ n ∷ []
new_fresh v n fresh = ⊎_elim
    (λ (t : In n v.marked × (has_marked v n ≡ true)). absurd (fresh t.0))
    (λ (t : (¬ In n v.marked) × (has_marked v n ≡ false)). ap (λ b. let l : List ℕ = cond (not b) (n ∷ []) [] in l) t.1) (told n v.marked)

pub new_more : (v : View) (ns ms : List ℕ) → new_to v (ns ++ ms) ≡ new_to v ns ++ new_to v ms
new_more v ns ms = filter-append (λ n. not (has_marked v n)) ns ms

-- each number that is handed over is one that the seat has marked then
pub marked_then : (v : View) (n : ℕ) (ns : List ℕ) → In n ns → In n (v.marked ++ new_to v ns)
marked_then v n ns there = ⊎_elim (λ (t : In n v.marked × (has_marked v n ≡ true)). in_front n v.marked (new_to v ns) t.0)
    (λ (t : (¬ In n v.marked) × (has_marked v n ≡ false)). in_behind n v.marked (new_to v ns) (kept t.1 ns there)) (told n v.marked)
  where
    kept : has_marked v n ≡ false → (ms : List ℕ) → In n ms → In n (new_to v ms)
    kept fresh [] h = h
    kept fresh (x ∷ xs) h = ⊎_elim
        (λ (e : n ≡ x). subst (λ b. In n (cond (not b) (x ∷ new_to v xs) (new_to v xs))) (sym (ap (has_marked v) (sym e) ∙ fresh)) (inl e))
        (λ (a : In n xs). later (has_marked v x) (kept fresh xs a)) h
      where
        later : (b : Bool) → In n (new_to v xs) → In n (cond (not b) (x ∷ new_to v xs) (new_to v xs))
        later true a = a
        later false a = inr a
