-- Lists that lie in pieces of 4,096, and a last one.
use Rattle.std.proofs.Common.{◌≡◌, ℕ, zero, suc, ◌+◌, ◌-◌, ◌*◌, ◌/◌, ◌%◌, ◌<◌, ◌≤◌, List, [], ◌∷◌, ◌++◌, length, reverse, take, drop, slice_get, flat_map, Option, Some, None, option_copied, Bor, refl, sym, ap, ◌∙◌, append_assoc, arith}
use Rattle.std.specs.List.{All}
use Rattle.std.specs.Slice.{IsItemAt}
use Rattle.std.proofs.lemmas.List.{length-append, reverse-reverse, drop_more, drop-take, drop-drop}
use Rattle.std.proofs.lemmas.List.Elements.{All-head, All-tail}
use Rattle.std.proofs.lemmas.Option.{slice_get-get_or, slice_get_past, slice_get_within, get_or_from_slice_get}

get_before : {E : Type 0} (xs ys : List E) (at : ℕ) → at < length xs → slice_get (xs ++ ys) at ≡ slice_get xs at
get_before [] ys at h = absurd (omega arith)
get_before (x ∷ xs) ys zero h = refl
get_before (x ∷ xs) ys (suc at) h = get_before xs ys at (omega arith)

get_behind : {E : Type 0} (xs ys : List E) (at k : ℕ) → at ≡ length xs + k → slice_get (xs ++ ys) at ≡ slice_get ys k
get_behind [] ys at k h = let e : at ≡ k = omega arith in rw e refl
get_behind (x ∷ xs) ys zero k h = absurd (omega arith)
get_behind (x ∷ xs) ys (suc at) k h = get_behind xs ys at k (omega arith)

some_is : {V : Type 0} (p q : V) → Some p ≡ Some q → p ≡ q
some_is p q h = cc

-- what a slice lends is what stands there
pub lent_is : {V : Type 0} (xs : List V) (i : ℕ) (r : Option (Bor V)) → IsItemAt xs i r → option_copied r ≡ slice_get xs i
lent_is xs i None h = sym (slice_get_past xs i h.3)
lent_is xs i (Some x) h = ap Some (h.3.1 x.now) ∙ sym (slice_get-get_or xs i x.now h.3.0)

none_is : {V : Type 0} {X : Type 0} (p : V) → None ≡ Some p → X
none_is p h = absurd (cc)

module _ {V E : Type 0} (items : V → List E) where
  -- full pieces have 4,096 times as many items as they are
  length_full : (pieces : List V) → All (λ p. length (items p) ≡ 4096) pieces → length (flat_map items pieces) ≡ length pieces * 4096
  length_full [] full = refl
  length_full (p ∷ pieces) full =
      let here : length (items p) ≡ 4096 = All-head (λ p. length (items p) ≡ 4096) p pieces full in
      let more : length (flat_map items pieces) ≡ length pieces * 4096 = length_full pieces (All-tail (λ p. length (items p) ≡ 4096) p pieces full) in
      omega (arith, length-append (items p) (flat_map items pieces), here, more)

  pub length_joined : (pieces : List V) (last : List E) → All (λ p. length (items p) ≡ 4096) pieces → length (flat_map items pieces ++ last) ≡ length pieces * 4096 + length last
  length_joined pieces last full = omega (arith, length-append (flat_map items pieces) last, length_full pieces full)

  get_full : (pieces : List V) (last : List E) (i j at : ℕ) (p : V) → All (λ p. length (items p) ≡ 4096) pieces → slice_get pieces i ≡ Some p → j < 4096 → at ≡ i * 4096 + j
      → slice_get (flat_map items pieces ++ last) at ≡ slice_get (items p) j
  get_full [] last i j at p full h l e = none_is p h
  get_full (q ∷ pieces) last zero j at p full h l e =
      let same : at ≡ j = omega arith in
      let here : length (items q) ≡ 4096 = All-head (λ p. length (items p) ≡ 4096) q pieces full in
      ap (λ l. slice_get l at) (append_assoc (items q) (flat_map items pieces) last)
      ∙ get_before (items q) (flat_map items pieces ++ last) at (omega (arith, here)) ∙ ap (slice_get (items q)) same ∙ ap (λ v. slice_get (items v) j) (some_is q p h)
  get_full (q ∷ pieces) last (suc i) j at p full h l e =
      let here : length (items q) ≡ 4096 = All-head (λ p. length (items p) ≡ 4096) q pieces full in
      ap (λ l. slice_get l at) (append_assoc (items q) (flat_map items pieces) last)
      ∙ get_behind (items q) (flat_map items pieces ++ last) at (i * 4096 + j) (omega (arith, here))
      ∙ get_full pieces last i j (i * 4096 + j) p (All-tail (λ p. length (items p) ≡ 4096) q pieces full) h l refl

  -- the item at a place in a full piece
  pub at_full : (pieces : List V) (last : List E) (at : ℕ) (p : V) → All (λ p. length (items p) ≡ 4096) pieces → slice_get pieces (at / 4096) ≡ Some p
      → slice_get (reverse (reverse (flat_map items pieces ++ last))) at ≡ slice_get (items p) (at % 4096)
  at_full pieces last at p full h =
      ap (λ l. slice_get l at) (reverse-reverse (flat_map items pieces ++ last))
      ∙ get_full pieces last (at / 4096) (at % 4096) at p full h (omega arith) (omega arith)

  -- the item at a place behind the full pieces
  pub at_last : (pieces : List V) (last : List E) (at : ℕ) → All (λ p. length (items p) ≡ 4096) pieces → length pieces * 4096 ≤ at
      → slice_get (reverse (reverse (flat_map items pieces ++ last))) at ≡ slice_get last (at - length pieces * 4096)
  at_last pieces last at full h =
      ap (λ l. slice_get l at) (reverse-reverse (flat_map items pieces ++ last))
      ∙ get_behind (flat_map items pieces) last at (at - length pieces * 4096) (omega (arith, length_full pieces full))

-- ---- a part of a list

-- the first of a part, and the part behind it
pub part_first : {E : Type 0} (xs : List E) (from to : ℕ) (x : E) → Some x ≡ slice_get xs from → from < to → take (to - from) (drop from xs) ≡ x ∷ take (to - (from + 1)) (drop (from + 1) xs)
part_first xs from to x h l =
    let within = slice_get_within xs from x (sym h) in
    let less : to - from ≡ suc (to - (from + 1)) = omega arith in
    rw (less, drop_more xs from x within, get_or_from_slice_get xs from x x (sym h)) refl

-- a part of a part
pub part_behind : {E : Type 0} (xs : List E) (from to count : ℕ) → count ≤ to - from → take (to - (from + count)) (drop (from + count) xs) ≡ drop count (take (to - from) (drop from xs))
part_behind xs from to count h =
    let whole : to - from ≡ count + (to - (from + count)) = omega arith in
    sym (ap (λ n. drop count (take n (drop from xs))) whole ∙ drop-take count (to - (from + count)) (drop from xs) ∙ ap (take (to - (from + count))) (drop-drop count from xs))
