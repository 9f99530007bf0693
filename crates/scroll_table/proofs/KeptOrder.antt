-- What is kept is ordered by shard first, and then by version.
use Rattle.std.proofs.Common.{◌≡◌, ℕ, ◌<◌, ◌≤◌, false, refl, ap, arith, ◌∙◌}
use Rattle.std.specs.Ordering.{nat_cmp, ordering_then, is_gt, MatchOrdering}
use Rattle.std.specs.declared.cmp.Ordering.{Ordering}
use Rattle.std.specs.declared.cmp.Ordering.TheVariants.{Less, Equal, Greater}
use Rattle.std.proofs.lemmas.Cmp.{ranked}
use Rattle.task_ids.specs.TaskIdOrder.{task_id_cmp}
use Rattle.scroll_table.specs.declared.versions.Kept.{Kept}
use Rattle.scroll_table.specs.Owners.{rank}
use Rattle.scroll_table.specs.Versions.{kept_cmp}
use Rattle.scroll_table.proofs.Ranked.{by_rank, not_above}

-- the first of a shard does not stand after another of it
pub from_first : (a k : Kept) → k.shard ≡ a.shard → a.version ≤ k.version → rank a.id ≤ rank k.id → is_gt (kept_cmp a k) ≡ false
from_first a k same low ranks = by_case (nat_cmp a.shard k.shard) (ranked a.shard k.shard (nat_cmp a.shard k.shard) refl) (nat_cmp a.version k.version) (ranked a.version k.version (nat_cmp a.version k.version) refl)
  where
    last : is_gt (task_id_cmp a.id k.id) ≡ false
    last = ap is_gt (by_rank a.id k.id) ∙ not_above (rank a.id) (rank k.id) ranks

    by_case : (r : Ordering) → MatchOrdering r (a.shard < k.shard) (a.shard ≡ k.shard) (k.shard < a.shard) → (s : Ordering) → MatchOrdering s (a.version < k.version) (a.version ≡ k.version) (k.version < a.version)
        → is_gt (ordering_then r (ordering_then s (task_id_cmp a.id k.id))) ≡ false
    by_case Less h s g = refl
    by_case Equal h Less g = refl
    by_case Equal h Equal g = last
    by_case Equal h Greater g = absurd (omega arith)
    by_case Greater h s g = absurd (omega arith)

-- two, the first of which does not stand after the second
pub not_later : (a k : Kept) → is_gt (kept_cmp a k) ≡ false → (a.shard ≤ k.shard) × (k.shard ≤ a.shard → a.version ≤ k.version)
not_later a k e = by_case (nat_cmp a.shard k.shard) (ranked a.shard k.shard (nat_cmp a.shard k.shard) refl) (nat_cmp a.version k.version) (ranked a.version k.version (nat_cmp a.version k.version) refl) e
  where
    by_case : (r : Ordering) → MatchOrdering r (a.shard < k.shard) (a.shard ≡ k.shard) (k.shard < a.shard) → (s : Ordering) → MatchOrdering s (a.version < k.version) (a.version ≡ k.version) (k.version < a.version)
        → is_gt (ordering_then r (ordering_then s (task_id_cmp a.id k.id))) ≡ false → (a.shard ≤ k.shard) × (k.shard ≤ a.shard → a.version ≤ k.version)
    by_case Less h s g e = (omega arith, λ back. absurd (omega arith))
    by_case Greater h s g e = absurd (cc)
    by_case Equal h Less g e = (omega arith, λ back. omega arith)
    by_case Equal h Equal g e = (omega arith, λ back. omega arith)
    by_case Equal h Greater g e = absurd (cc)

-- one whose shard and version are these
pub same_kept : (k : Kept) (shard : ℕ) → k.shard ≡ shard → k ≡ record { shard = shard; version = k.version; id = k.id }
same_kept k shard e = ap (λ (s : ℕ). let r : Kept = record { shard = s; version = k.version; id = k.id } in r) e
