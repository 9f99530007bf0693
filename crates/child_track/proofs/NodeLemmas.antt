-- One node more in a set of nodes.
use Rattle.std.proofs.Common.{◌≡◌, ℕ, ◌*◌, ◌%◌, ◌^◌, ◌<◌, ◌==◌, ◌||◌, bit_or, arith, false, inl, inr, w16}
use Rattle.std.proofs.lemmas.Bool.{cases_eq}
use Rattle.std.proofs.lemmas.Bool.Decides.{nat_tests}
use Rattle.std.specs.Int.{bit_at}
use Rattle.std.proofs.lemmas.Nat.Bits.{bit_at_set_same, bit_at_set_other, bit_at-zero}
use Rattle.child_track.specs.NodeSet.{has_node}

bit_at-with : (s k n : ℕ) → k < 16 → (bit_at (bit_or s (1 * 2 ^ k % 65536)) n == 1) ≡ ((bit_at s n == 1) || (n == k))
bit_at-with s k n within =
    elim (cases_eq n k) [
      | inl e ↦ (let same = bit_at_set_same w16 s k within in rw e (grind (arith, nat_tests)))
      | inr other ↦ (let kept = bit_at_set_other w16 s k within n other in grind (arith, nat_tests))
    ]

pub has_node-with : (s k n : ℕ) → k < 16 → has_node (record { 0 = bit_or s (1 * 2 ^ k % 65536) }) n ≡ (has_node (record { 0 = s }) n || (n == k))
unfolding has_node
has_node-with s k n within = let e = bit_at-with s k n within in grind (arith, nat_tests)

-- the set with no bit has no node
pub has_node-none : (n : ℕ) → has_node (record { 0 = 0 }) n ≡ false
unfolding has_node
has_node-none n = rw (bit_at-zero n) (grind (arith, nat_tests))
