-- Which tasks a control seat of a race board has marked after a mark and after a list.
use Rattle.std.proofs.Common.{◌≡◌, ◌≢◌, ℕ, suc, zero, ◌<◌, ◌⊎◌, inl, inr, Bool, true, false, not, cond, List, [], ◌∷◌, ◌++◌, length, filter, refl, sym, ap, ◌∙◌, subst, arith, Contains}
use Rattle.task_table.specs.declared.ended.MarkAnswer.{MarkAnswer}
use Rattle.task_table.specs.declared.ended.MarkAnswer.TheVariants.{Marked, Already, NotFound}
use Rattle.race_board.specs.Board.{In}
use Rattle.race_board.specs.Lists.{Marks, Listing, new_to}
use Rattle.race_board.specs.declared.views.Size.{Size}
use Rattle.race_board.specs.declared.views.View.{View}
use Rattle.race_board.proofs.News.{marked_then}

in_of_contains : (xs : List ℕ) (n : ℕ) → Contains xs n → In n xs
in_of_contains [] n (k, l, is) = absurd (omega (arith, l))
in_of_contains (x ∷ xs) n (zero, l, is) = inl (sym is)
in_of_contains (x ∷ xs) n (suc k, l, is) = inr (in_of_contains xs n (k, omega (arith, l), is))

contains_of_in : (xs : List ℕ) (n : ℕ) → In n xs → Contains xs n
contains_of_in [] n there = absurd there
contains_of_in (x ∷ xs) n (inl e) = (0, omega arith, sym e)
contains_of_in (x ∷ xs) n (inr later) = let (k, l, is) = contains_of_in xs n later in (suc k, omega (arith, l), is)

in_either : (xs ys : List ℕ) (n : ℕ) → In n (xs ++ ys) → In n xs ⊎ In n ys
in_either [] ys n there = inr there
in_either (x ∷ xs) ys n (inl e) = inl (inl e)
in_either (x ∷ xs) ys n (inr later) = elim (in_either xs ys n later) [ inl a ↦ inl (inr a) | inr b ↦ inr b ]

in_kept : (p : ℕ → Bool) (xs : List ℕ) (n : ℕ) → In n (filter p xs) → In n xs
in_kept p [] n there = there
in_kept p (x ∷ xs) n there = one (p x) (in_kept p xs n) there
  where
    one : (b : Bool) → (In n (filter p xs) → In n xs) → In n (cond b (x ∷ filter p xs) (filter p xs)) → (n ≡ x) ⊎ In n xs
    one true behind (inl e) = inl e
    one true behind (inr later) = inr (behind later)
    one false behind later = inr (behind later)

module _ (v w : View) (j i : ℕ) (ns : List ℕ) (lists : Listing v w j i (v.marked ++ new_to v ns)) where
  -- who is handed over is marked
  pub listed_known : (n : ℕ) → Contains ns n → In n w.marked
  listed_known n there = subst (In n) (sym (ap (λ u. u.marked) lists)) (marked_then v n ns (in_of_contains ns n there))

  -- and no other is, but those that were before
  pub listed_only : (n : ℕ) → In n w.marked → In n v.marked ⊎ Contains ns n
  listed_only n is = elim (in_either v.marked (new_to v ns) n (subst (In n) (ap (λ u. u.marked) lists) is)) [
    | inl was ↦ inl was
    | inr there ↦ inr (contains_of_in ns n (in_kept _ ns n there))
  ]

pub marks_only : (v w : View) (z : Size) (m c : ℕ) (told : MarkAnswer) → Marks v w z m c told → (n : ℕ) → In n w.marked → In n v.marked ⊎ ((told ≡ Marked) × (n ≡ m))
marks_only v w z m c Marked (i, seen, saw, wrote, named, unmarked, e) n is = elim (in_either v.marked (m ∷ []) n (subst (In n) (ap (λ u. u.marked) e) is)) [
  | inl was ↦ inl was
  | inr (inl now) ↦ inr (refl, now)
  | inr (inr none) ↦ absurd none
]
marks_only v w z m c (Already k) same n is = inl (subst (In n) (ap (λ u. u.marked) same.0) is)
marks_only v w z m c NotFound same n is = inl (subst (In n) (ap (λ u. u.marked) same.0) is)
