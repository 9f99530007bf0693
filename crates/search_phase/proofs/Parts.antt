-- A part of a list between two places that stay within it.
use Rattle.std.specs.Prelude.{◌≡◌, ℕ, ◌+◌, ◌-◌, min, List, take, drop, length}
use Rattle.std.proofs.Common.{◌∙◌, ap, arith}
use Rattle.std.proofs.lemmas.List.{drop_min, take_min, length-drop}

-- from one place on, at most so many
pub cut_within : {X : Type 0} (xs : List X) (n start end from size : ℕ) → n ≡ length xs → start ≡ min n from → end ≡ min n (start + size)
    → take (end - start) (drop start xs) ≡ take size (drop from xs)
cut_within xs n start end from size whole starts ends =
    let same : drop start xs ≡ drop from xs = ap (λ k. drop k xs) (starts ∙ ap (λ k. min k from) whole ∙ omega arith) ∙ drop_min from xs in
    let much : end - start ≡ min size (length (drop from xs)) = omega (arith, length-drop from xs) in
    ap (λ k. take k (drop start xs)) much ∙ ap (take (min size (length (drop from xs)))) same ∙ take_min size (drop from xs)
