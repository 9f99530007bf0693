-- The quotas of a node's workers add up to its slots.
use Rattle.std.proofs.Common.{◌≡◌, ℕ, zero, suc, ◌+◌, ◌-◌, ◌*◌, ◌/◌, ◌%◌, ◌<◌, ◌≤◌, Bool, true, false, cond, ◌∷◌, ap, ◌∙◌, refl, arith}
use Rattle.std.proofs.Math.Nat.{div-add-mod}
use Rattle.std.proofs.lemmas.Bool.{ltb-true, ltb-false}
use Rattle.std.proofs.lemmas.List.Sums.{sum_by-cons}
use Rattle.std.specs.List.{range_with_len, sum_by}
use Rattle.std.specs.Prelude.{nat_lt}
use Rattle.data_pool.specs.Workers.{share_of, quota_of}

module _ (each more : ℕ) where
  one_more : (from n total : ℕ) (b : Bool) → nat_lt from more ≡ b → total + (more - (from + 1 + n)) ≡ n * each + (more - (from + 1))
      → (each + cond b 1 0) + total + (more - (from + suc n)) ≡ suc n * each + (more - from)
  one_more from n total true e h = let low : from < more = ltb-true from more e in omega (arith, h)
  one_more from n total false e h = let high : more ≤ from = ltb-false from more e in omega (arith, h)

  -- the shares of so many workers from one on
  shares : (from n : ℕ) → sum_by (share_of each more) (range_with_len from n) + (more - (from + n)) ≡ n * each + (more - from)
  shares from zero = omega arith
  shares from (suc n) =
      ap (λ total. total + (more - (from + suc n))) (sum_by-cons (share_of each more) from (range_with_len (from + 1) n))
      ∙ one_more from n (sum_by (share_of each more) (range_with_len (from + 1) n)) (nat_lt from more) refl (shares (from + 1) n)

-- of slots that were divided by the number of workers
shared_out : (slots count each more total : ℕ) → count * each + more ≡ slots → more < count → total + (more - (0 + count)) ≡ count * each + (more - 0) → total ≡ slots
shared_out slots count each more total is low sum = omega (arith, is, sum)

pub add_up : (slots count : ℕ) → 0 < count → sum_by (quota_of slots count) (range_with_len 0 count) ≡ slots
add_up slots count some =
    let low : slots % count < count = omega arith in
    shared_out slots count (slots / count) (slots % count) (sum_by (quota_of slots count) (range_with_len 0 count)) (div-add-mod slots count) low (shares (slots / count) (slots % count) 0 count)
