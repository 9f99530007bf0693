-- How many elements of a list pass a test, where another test differs at one element.
use Rattle.std.proofs.Common.{◌≡◌, ◌-◌, ◌≤◌, ◌<◌, ◌&&◌, ◌==◌, Bool, true, false, cond, not, List, [], ◌∷◌, filter, length, refl, arith}
use Rattle.std.specs.List.{list_any, list_all}
use Rattle.std.proofs.lemmas.Bool.Decides.{nat_tests}
use Rattle.task_laws.proofs.Numbers.{number}

-- `same` tells the element; at all others q says what p does
module _ {X : Type 0} (same p q : X → Bool) (was now : Bool) (apart : (x : X) → same x ≡ false → q x ≡ p x) (p_there : (x : X) → same x ≡ true → p x ≡ was) (q_there : (x : X) → same x ≡ true → q x ≡ now) where
  absent : (xs : List X) → number same xs ≡ 0 → length (filter q xs) ≡ length (filter p xs)
  absent [] e = refl
  absent (x ∷ xs) e = let rest = absent xs in grind (arith, apart x, rest)

  pub present : (xs : List X) → was ≡ true → list_any same xs ≡ true → 0 < length (filter p xs)
  present [] w e = absurd (cc)
  present (x ∷ xs) w e = let rest = present xs w in grind (arith, p_there x, rest)

  -- the element passed, and does not pass any more
  pub changed : (now ≡ true → was ≡ true) → (xs : List X) → number same xs ≤ 1 → length (filter q xs) ≡ cond (list_any same xs && (was && not now)) (length (filter p xs) - 1) (length (filter p xs))
  changed down [] e = refl
  changed down (x ∷ xs) e = by_element (same x) refl (changed down xs)
    where
      none_in : (ys : List X) → number same ys ≡ 0 → list_any same ys ≡ false
      none_in [] z = refl
      none_in (y ∷ ys) z = let rest = none_in ys in grind (arith, rest)

      by_element : (b : Bool) → same x ≡ b → (number same xs ≤ 1 → length (filter q xs) ≡ cond (list_any same xs && (was && not now)) (length (filter p xs) - 1) (length (filter p xs)))
          → length (filter q (x ∷ xs)) ≡ cond (list_any same (x ∷ xs) && (was && not now)) (length (filter p (x ∷ xs)) - 1) (length (filter p (x ∷ xs)))
      by_element true is rest =
          let gone : number same xs ≡ 0 = (let z = rw is at e in omega (arith, z)) in
          let others = absent xs gone in
          let before = p_there x is in
          let after = q_there x is in
          by_tests was now before after down others
        where
          by_tests : (w n : Bool) → p x ≡ w → q x ≡ n → (n ≡ true → w ≡ true) → length (filter q xs) ≡ length (filter p xs)
              → length (filter q (x ∷ xs)) ≡ cond (list_any same (x ∷ xs) && (w && not n)) (length (filter p (x ∷ xs)) - 1) (length (filter p (x ∷ xs)))
          by_tests true true a b d o = rw (is, a, b) (rw o refl)
          by_tests true false a b d o = rw (is, a, b) (let same = o in omega (arith, same))
          by_tests false true a b d o = absurd (cc (d refl))
          by_tests false false a b d o = rw (is, a, b) o
      by_element false is rest =
          let fewer : number same xs ≤ 1 = (let z = rw is at e in omega (arith, z)) in
          let others = rest fewer in
          let equal = apart x is in
          let some = present xs in
          grind (arith, is, equal, others, some)

-- all pass exactly where none fails
pub all_or_some : {X : Type 0} (p : X → Bool) (xs : List X) → list_all p xs ≡ (length (filter (λ x. not (p x)) xs) == 0)
all_or_some p [] = refl
all_or_some p (x ∷ xs) = by_test (p x) refl (all_or_some p xs)
  where
    by_test : (b : Bool) → p x ≡ b → list_all p xs ≡ (length (filter (λ y. not (p y)) xs) == 0) → list_all p (x ∷ xs) ≡ (length (filter (λ y. not (p y)) (x ∷ xs)) == 0)
    by_test true e rest = rw e rest
    by_test false e rest = rw e (grind (arith, nat_tests))

-- an element of a list all of which pass does
pub passes : {X : Type 0} (same p : X → Bool) (b : Bool) → ((x : X) → same x ≡ true → p x ≡ b) → (xs : List X) → list_all p xs ≡ true → list_any same xs ≡ true → b ≡ true
passes same p b there [] all some = absurd (cc)
passes same p b there (x ∷ xs) all some = let rest = passes same p b there xs in grind (arith, there x, rest)
