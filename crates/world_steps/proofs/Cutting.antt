-- One more cut of a list.
use Rattle.std.proofs.Common.{◌≡◌, ℕ, zero, suc, ◌+◌, ◌*◌, List, [], ◌∷◌, ◌++◌, length, None, refl, sym, ap, ◌∙◌, arith}
use Rattle.std.specs.Prelude.{take, drop}
use Rattle.std.specs.List.{last_or}
use Rattle.std.specs.Option.{option_or}
use Rattle.std.proofs.lemmas.List.{drop-drop}
use Rattle.std.proofs.Math.Seq.{take-add}
use native.Mathlib.Nat.{suc-mul, zero-mul}
use Rattle.world_steps.specs.PagesFollow.{cuts}
use Rattle.search_phase.proofs.CursorCuts.{last_or-append, last_or_other}

pub cuts_next : {X : Type 0} (size n : ℕ) (xs : List X) → cuts size (suc n) xs ≡ cuts size n xs ++ take size (drop (n * size) xs) ∷ []
cuts_next {X} size zero xs = ap (λ m. take size (drop m xs) ∷ []) (sym (zero-mul size))
cuts_next {X} size (suc n) xs =
    let place : size + n * size ≡ suc n * size = omega (arith, suc-mul n size) in
    let next : drop (n * size) (drop size xs) ≡ drop (suc n * size) xs = drop-drop (n * size) size xs ∙ ap (λ m. drop m xs) place in
    ap (λ (l : List (List X)). take size xs ∷ l) (cuts_next size n (drop size xs))
    ∙ ap (λ (l : List X). take size xs ∷ cuts size n (drop size xs) ++ take size l ∷ []) next

length_push : {X : Type 0} (l : List X) (x : X) → length (l ++ x ∷ []) ≡ suc (length l)
length_push [] x = refl
length_push (y ∷ l) x = ap suc (length_push l x)

-- so many rows, and those of one more cut
pub rows_next : {X : Type 0} (size : ℕ) (l : List X) (x : X) → length l * size + size ≡ length (l ++ x ∷ []) * size
rows_next size l x = sym (suc-mul (length l) size) ∙ ap (λ n. n * size) (sym (length_push l x))

-- so many cuts, and one more
pub cuts_push : {X : Type 0} (size : ℕ) (xs : List X) (before : List (List X)) → before ≡ cuts size (length before) xs
    → before ++ take size (drop (length before * size) xs) ∷ [] ≡ cuts size (length (before ++ take size (drop (length before * size) xs) ∷ [])) xs
cuts_push {X} size xs before e =
    let next : List X = take size (drop (length before * size) xs) in
    ap (λ (l : List (List X)). l ++ next ∷ []) e ∙ sym (cuts_next size (length before) xs) ∙ ap (λ n. cuts size n xs) (sym (length_push before next))

-- the last of the first rows and of the next ones
pub last_next : {X : Type 0} (n m : ℕ) (xs : List X) → option_or (last_or None (take m (drop n xs))) (last_or None (take n xs)) ≡ last_or None (take (n + m) xs)
last_next n m xs = last_or_other (last_or None (take n xs)) (take m (drop n xs)) ∙ sym (last_or-append None (take n xs) (take m (drop n xs))) ∙ ap (last_or None) (sym (take-add n m xs))
