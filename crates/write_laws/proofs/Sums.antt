-- Sums over the numbers from 1 to n.
use Rattle.std.proofs.Common.{◌≡◌, ◌⊎◌, inl, inr, Bool, true, false, ◌%◌, ◌+◌, ◌-◌, ◌≤◌, ◌<◌, ℕ, zero, suc, cond, List, [], ◌∷◌, length, refl, sym, ap, ◌∙◌, arith}
use Rattle.std.specs.List.{sum_by}
use Rattle.std.specs.Option.{option_map_or}
use Rattle.std.specs.Prelude.{◌==◌, slice_get}
use Rattle.std.proofs.lemmas.Bool.{cases_lt}
use Rattle.std.proofs.lemmas.Bool.Decides.{nat_tests}
use Rattle.std.proofs.lemmas.List.Sums.{sum_by-cons}

abbrev pub sum_to : (ℕ → ℕ) → ℕ → ℕ
sum_to f zero = 0
sum_to f (suc n) = sum_to f n + f (suc n)

pub sums_agree : (f g : ℕ → ℕ) → ((k : ℕ) → f k ≡ g k) → (n : ℕ) → sum_to f n ≡ sum_to g n
sums_agree f g each zero = refl
sums_agree f g each (suc n) = let rest = sums_agree f g each n in let last = each (suc n) in omega (arith, rest, last)

pub sum_of_none : (f : ℕ → ℕ) → ((k : ℕ) → f k ≡ 0) → (n : ℕ) → sum_to f n ≡ 0
sum_of_none f none zero = refl
sum_of_none f none (suc n) = let rest = sum_of_none f none n in let last = none (suc n) in omega (arith, rest, last)

pub sum_of_sums : (f g : ℕ → ℕ) (n : ℕ) → sum_to (λ k. f k + g k) n ≡ sum_to f n + sum_to g n
sum_of_sums f g zero = refl
sum_of_sums f g (suc n) = let rest = sum_of_sums f g n in omega (arith, rest)

-- a number that is not reached is not counted
not_reached : (j n : ℕ) → n < j → sum_to (λ k. cond (k == j) 1 0) n ≡ 0
not_reached j zero l = refl
not_reached j (suc n) l = let rest = not_reached j n (omega (arith, l)) in grind (arith, nat_tests, rest)

-- one that is reached is counted once
pub reached_once : (j n : ℕ) → 1 ≤ j → j ≤ n → sum_to (λ k. cond (k == j) 1 0) n ≡ 1
reached_once j zero i l = absurd (omega (arith, i, l))
reached_once j (suc n) i l = let rest = reached_once j n i in let none = not_reached j n in grind (arith, nat_tests, rest, none)

-- ---- sums of which only the numbers up to n matter

pub sums_agree_to : (f g : ℕ → ℕ) (n : ℕ) → ((k : ℕ) → 1 ≤ k → k ≤ n → f k ≡ g k) → sum_to f n ≡ sum_to g n
sums_agree_to f g zero each = refl
sums_agree_to f g (suc n) each = let rest = sums_agree_to f g n (λ k low high. each k low (omega (arith, high))) in let last = each (suc n) (omega arith) (omega arith) in omega (arith, rest, last)

-- where a sum is 0, so is each of its numbers
pub each_none : (f : ℕ → ℕ) (n : ℕ) → sum_to f n ≡ 0 → (k : ℕ) → 1 ≤ k → k ≤ n → f k ≡ 0
each_none f zero none k low high = absurd (omega (arith, low, high))
each_none f (suc n) none k low high = by_last (cases_lt n k) (each_none f n (omega (arith, none)) k low)
  where
    by_last : (n < k) ⊎ (k ≤ n) → (k ≤ n → f k ≡ 0) → f k ≡ 0
    by_last (inr less) rest = rest less
    by_last (inl more) rest = let last : k ≡ suc n = omega (arith, high, more) in ap f last ∙ omega (arith, none)

from_first : (f : ℕ → ℕ) (n : ℕ) → sum_to f (suc n) ≡ f 1 + sum_to (λ k. f (suc k)) n
from_first f zero = omega arith
from_first f (suc n) = let rest = from_first f n in omega (arith, rest)

-- the sum over a list, by the numbers of its elements
pub sum_of_list : {X : Type 0} (weight : X → ℕ) (xs : List X) → sum_to (λ k. option_map_or weight (slice_get xs (k - 1)) 0) (length xs) ≡ sum_by weight xs
sum_of_list weight [] = refl
sum_of_list weight (x ∷ xs) =
    from_first (λ k. option_map_or weight (slice_get (x ∷ xs) (k - 1)) 0) (length xs)
    ∙ (λ i. weight x + rest (sum_of_list weight xs) i) ∙ sym (sum_by-cons weight x xs)
  where
    at : (k : ℕ) → 1 ≤ k → slice_get (x ∷ xs) (suc k - 1) ≡ slice_get xs (k - 1)
    at zero low = absurd (omega (arith, low))
    at (suc k) low = ap (slice_get (x ∷ xs)) (let e : suc (suc k) - 1 ≡ suc k = omega arith in e) ∙ ap (slice_get xs) (let e : k ≡ suc k - 1 = omega arith in e)

    rest : sum_to (λ k. option_map_or weight (slice_get xs (k - 1)) 0) (length xs) ≡ sum_by weight xs → sum_to (λ k. option_map_or weight (slice_get (x ∷ xs) (suc k - 1)) 0) (length xs) ≡ sum_by weight xs
    rest same = sums_agree_to _ _ (length xs) (λ k low high. ap (λ o. option_map_or weight o 0) (at k low)) ∙ same

-- where each even number of a sum is the odd one before it in another, and nothing else is in either
pub by_pairs : (f g : ℕ → ℕ) (n : ℕ) → ((k : ℕ) → 1 ≤ k → k ≤ n → k % 2 ≡ 1 → f k ≡ 0) → ((k : ℕ) → 1 ≤ k → k ≤ n → k % 2 ≡ 0 → (f k ≡ g (k - 1)) × (g k ≡ 0)) → sum_to f n + cond (n % 2 == 1) (g n) 0 ≡ sum_to g n
by_pairs f g zero odd even = refl
by_pairs f g (suc n) odd even = by_parity (n % 2 == 1) refl (by_pairs f g n (λ k low high. odd k low (omega (arith, high))) (λ k low high. even k low (omega (arith, high))))
  where
    by_parity : (b : Bool) → (n % 2 == 1) ≡ b → sum_to f n + cond (n % 2 == 1) (g n) 0 ≡ sum_to g n → sum_to f n + f (suc n) + cond (suc n % 2 == 1) (g (suc n)) 0 ≡ sum_to g n + g (suc n)
    by_parity true e before =
        let odd_n : n % 2 ≡ 1 = grind (arith, nat_tests) in
        let next : (suc n % 2 == 1) ≡ false = let even_n : suc n % 2 ≡ 0 = omega (arith, odd_n) in grind (arith, nat_tests) in
        let now = even (suc n) (omega arith) (omega arith) (omega (arith, odd_n)) in
        let same : g (suc n - 1) ≡ g n = ap g (omega arith) in
        let was : sum_to f n + g n ≡ sum_to g n = rw e at before in
        rw next (omega (arith, now.0, now.1, same, was))
    by_parity false e before =
        let even_n : n % 2 ≡ 0 = grind (arith, nat_tests) in
        let next : (suc n % 2 == 1) ≡ true = let odd_n : suc n % 2 ≡ 1 = omega (arith, even_n) in grind (arith, nat_tests) in
        let now = odd (suc n) (omega arith) (omega arith) (omega (arith, even_n)) in
        let was : sum_to f n + 0 ≡ sum_to g n = rw e at before in
        rw next (omega (arith, now, was))
