-- A number from 1 to a greatest one, by its test.
use Rattle.std.proofs.Common.{◌≡◌, ℕ, ◌≤◌, Bool, true, false, ◌&&◌, refl, arith}
use Rattle.std.specs.Prelude.{nat_le}
use Rattle.script_lang.specs.Fields.{from_1_to}

pub in_range : (greatest n : ℕ) → from_1_to greatest n ≡ true → (1 ≤ n) × (n ≤ greatest)
in_range greatest n is = both_hold (nat_le 1 n) (nat_le n greatest) refl refl is
  where
    both_hold : (low high : Bool) → nat_le 1 n ≡ low → nat_le n greatest ≡ high → low && high ≡ true → (1 ≤ n) × (n ≤ greatest)
    both_hold true true l h e = (grind (arith, l), grind (arith, h))
    both_hold true false l h e = cc
    both_hold false high l h e = cc

pub passes : (greatest n : ℕ) → 1 ≤ n → n ≤ greatest → from_1_to greatest n ≡ true
passes greatest n low high =
    let above : nat_le 1 n ≡ true = grind (arith, low) in
    let below : nat_le n greatest ≡ true = grind (arith, high) in
    rw (above, below) refl
