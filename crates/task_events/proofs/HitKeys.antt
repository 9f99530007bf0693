-- Hit order is a total order of keys, in which those that tie are equal.
use Rattle.std.specs.Prelude.{◌≡◌, ◌↔◌, Bool, true, IsTrue}
use Rattle.std.specs.declared.cmp.Ordering.{Ordering}
use Rattle.std.specs.declared.cmp.Ordering.TheVariants.{Less, Equal, Greater}
use Rattle.std.specs.Ordering.{nat_cmp, ordering_then, ordering_reverse, is_eq}
use Rattle.std.specs.Cmp.{Equal-is, IsTotalOrder, then_total, on_total, nat_cmp_total}
use Rattle.std.specs.FinMap.{nat_cmp-IsAntisymmetric}
use Rattle.std.proofs.Common.{refl, sym, ◌∙◌, ap}
use Rattle.query_match.specs.Sorting.{key_cmp}
use Rattle.query_match.specs.Orders.{key_cmp_total, key_cmp_equal}
use Rattle.task_events.specs.declared.request.HitKey.{HitKey}
use Rattle.task_events.specs.HitOrder.{hit_cmp}

pub hit_cmp_total : IsTotalOrder hit_cmp
hit_cmp_total = then_total (on_total (λ (k : HitKey). k.sort) key_cmp_total) (then_total (on_total (λ (k : HitKey). k.shard) nat_cmp_total) (on_total (λ (k : HitKey). k.place) nat_cmp_total))

both_tie : (r s : Ordering) → ordering_then r s ≡ Equal → (r ≡ Equal) × (s ≡ Equal)
both_tie Less s e = absurd cc
both_tie Equal s e = (refl, e)
both_tie Greater s e = absurd cc

-- two keys that compare equal are equal
pub hit_cmp_equal : (a b : HitKey) → hit_cmp a b ≡ Equal → a ≡ b
hit_cmp_equal a b e =
    let first : (key_cmp a.sort b.sort ≡ Equal) × (ordering_then (nat_cmp a.shard b.shard) (nat_cmp a.place b.place) ≡ Equal) = both_tie (key_cmp a.sort b.sort) (ordering_then (nat_cmp a.shard b.shard) (nat_cmp a.place b.place)) e in
    let second : (nat_cmp a.shard b.shard ≡ Equal) × (nat_cmp a.place b.place ≡ Equal) = both_tie (nat_cmp a.shard b.shard) (nat_cmp a.place b.place) first.1 in
    λ i. record {
      sort = key_cmp_equal a.sort b.sort first.0 i;
      shard = nat_cmp-IsAntisymmetric a.shard b.shard second.0 i;
      place = nat_cmp-IsAntisymmetric a.place b.place second.1 i;
    }

own_reverse : (r : Ordering) → r ≡ ordering_reverse r → is_eq r ≡ true
own_reverse Less e = absurd cc
own_reverse Equal e = refl
own_reverse Greater e = absurd cc

-- they compare equal exactly where they are equal
pub same_by_cmp : (a b : HitKey) (r : Ordering) (same : Bool) → r ≡ hit_cmp a b → same ≡ is_eq r → IsTrue same ↔ (a ≡ b)
same_by_cmp a b r same compared told =
    let told_by : same ≡ is_eq (hit_cmp a b) = told ∙ ap is_eq compared in (
      λ yes. hit_cmp_equal a b ((Equal-is (hit_cmp a b)).0 (sym told_by ∙ yes)),
      λ equal. told_by ∙ sym (ap (λ (k : HitKey). is_eq (hit_cmp a k)) equal) ∙ own_reverse (hit_cmp a a) (hit_cmp_total.antisymm a a),
    )
