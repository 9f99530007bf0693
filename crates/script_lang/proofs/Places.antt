-- The place of a name among some, looked for from a place on.
use Rattle.std.proofs.Common.{◌≡◌, ℕ, suc, ◌+◌, ◌<◌, ◌≤◌, List, length, map, drop, get_or, true, false, cond, Some, None, Bor, ap, ◌∙◌, arith}
use Rattle.std.proofs.Math.Seq.{drop-cons, drop-length}
use Rattle.std.specs.List.{position_from}
use Rattle.std.specs.Str.{bytes_eq}

-- the names, as texts
abbrev pub texts : List (Bor (List ℕ)) → List (List ℕ)
texts names = map (λ n. n.now) names

module _ (name : List ℕ) (names : List (Bor (List ℕ))) (place : ℕ) where
  module _ (other : Bor (List ℕ)) (within : place < length names) where
    from_here : position_from (bytes_eq name) place (texts (drop place names))
        ≡ cond (bytes_eq name (get_or names place other).now) (Some place) (position_from (bytes_eq name) (place + 1) (texts (drop (place + 1) names)))
    from_here =
        let next : suc place ≡ place + 1 = omega arith in
        ap (λ ns. position_from (bytes_eq name) place (texts ns)) (drop-cons names place other within)
        ∙ ap (λ n. cond (bytes_eq name (get_or names place other).now) (Some place) (position_from (bytes_eq name) (place + 1) (texts (drop n names)))) next

    pub found_here : bytes_eq name (get_or names place other).now ≡ true → position_from (bytes_eq name) place (texts (drop place names)) ≡ Some place
    found_here same = from_here ∙ ap (λ b. cond b (Some place) (position_from (bytes_eq name) (place + 1) (texts (drop (place + 1) names)))) same

    pub found_later : bytes_eq name (get_or names place other).now ≡ false
        → position_from (bytes_eq name) place (texts (drop place names)) ≡ position_from (bytes_eq name) (place + 1) (texts (drop (place + 1) names))
    found_later differs = from_here ∙ ap (λ b. cond b (Some place) (position_from (bytes_eq name) (place + 1) (texts (drop (place + 1) names)))) differs

  pub found_nowhere : place ≤ length names → length names ≤ place → position_from (bytes_eq name) place (texts (drop place names)) ≡ None
  found_nowhere low high =
      let end : place ≡ length names = omega arith in
      ap (λ n. position_from (bytes_eq name) place (texts (drop n names))) end ∙ ap (λ ns. position_from (bytes_eq name) place (texts ns)) (drop-length names)
