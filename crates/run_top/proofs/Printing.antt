-- What is appended for the first pairs of two lists, one more at a time.
use Rattle.std.proofs.Common.{◌≡◌, ℕ, ◌+◌, ◌<◌, min, List, [], ◌∷◌, ◌++◌, length, get_or, take, sym, ap, ◌∙◌, append-nil, arith}
use Rattle.std.specs.Prelude.{flat_map, zip}
use Rattle.std.proofs.lemmas.Grind.{flat_map-append}
use Rattle.std.proofs.lemmas.List.{take_more, take_all}
use Rattle.std.proofs.lemmas.Slice.Zip.{length-zip, get_or-zip}

module _ {X Y Z : Type 0} (text : X × Y → List Z) (xs : List X) (ys : List Y) (n : ℕ) where
  pub pair_more : (x : X) (y : Y) → n < length xs → n < length ys → x ≡ get_or xs n x → y ≡ get_or ys n y
      → flat_map text (take (n + 1) (zip xs ys)) ≡ flat_map text (take n (zip xs ys)) ++ text (x, y)
  pair_more x y k l e f =
      let pairs = zip xs ys in
      let before = flat_map text (take n pairs) in
      let here : get_or pairs n (x, y) ≡ (x, y) = get_or-zip xs ys n (x, y) k l ∙ sym (λ j. (e j, f j)) in
      ap (flat_map text) (take_more pairs n (x, y) (omega (arith, length-zip xs ys)))
      ∙ flat_map-append text (take n pairs) (get_or pairs n (x, y) ∷ [])
      ∙ ap (λ p. before ++ (text p ++ [])) here
      ∙ ap (λ t. before ++ t) (append-nil (text (x, y)))

  pub all_pairs : n ≡ min (length xs) (length ys) → flat_map text (take n (zip xs ys)) ≡ flat_map text (zip xs ys)
  all_pairs e = ap (flat_map text) (take_all n (zip xs ys) (omega (arith, length-zip xs ys)))
