-- A loop over the nodes gathers those with a count above zero: what holds below a node holds below the next.
use Rattle.std.proofs.Common.{◌≡◌, ℕ, ◌+◌, ◌≤◌, ◌<◌, ◌==◌, ◌||◌, ◌&&◌, nat_lt, Bool, false, arith, inl, inr, ap}
use Rattle.std.proofs.lemmas.Bool.{cases_order, cases_lt}
use Rattle.std.proofs.lemmas.Bool.Decides.{nat_tests}

pub gathered_yes : (count : ℕ → ℕ) (node n : ℕ) (before after : Bool) → before ≡ (nat_lt n node && nat_lt 0 (count n)) → after ≡ (before || (n == node)) → 0 < count node → after ≡ (nat_lt n (node + 1) && nat_lt 0 (count n))
gathered_yes count node n before after so_far one_more some =
    elim (cases_order n node) [
      | inl same ↦ (let at : count n ≡ count node = ap count same in grind (arith, nat_tests))
      | inr other ↦ grind (arith, nat_tests)
    ]

pub gathered_no : (count : ℕ → ℕ) (node n : ℕ) (before : Bool) → before ≡ (nat_lt n node && nat_lt 0 (count n)) → count node ≤ 0 → before ≡ (nat_lt n (node + 1) && nat_lt 0 (count n))
gathered_no count node n before so_far none =
    elim (cases_order n node) [
      | inl same ↦ (let at : count n ≡ count node = ap count same in grind (arith, nat_tests))
      | inr other ↦ grind (arith, nat_tests)
    ]

pub gathered_none : (count : ℕ → ℕ) (n : ℕ) (before : Bool) → before ≡ false → (n < 1 → count n ≡ 0) → before ≡ (nat_lt n 1 && nat_lt 0 (count n))
gathered_none count n before empty none =
    elim (cases_lt n 1) [
      | inl below ↦ (let zero_count = none below in grind (arith, nat_tests))
      | inr above ↦ grind (arith, nat_tests)
    ]

pub gathered_all : (count : ℕ → ℕ) (node n : ℕ) (gathered : Bool) → gathered ≡ (nat_lt n node && nat_lt 0 (count n)) → (node ≤ n → count n ≡ 0) → gathered ≡ nat_lt 0 (count n)
gathered_all count node n gathered so_far none =
    elim (cases_lt n node) [
      | inl below ↦ grind (arith, nat_tests)
      | inr above ↦ (let zero_count = none above in grind (arith, nat_tests))
    ]
