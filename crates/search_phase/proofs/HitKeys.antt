-- Hit order is a total order of keys, in which those that tie are equal.
use Rattle.std.specs.Prelude.{◌≡◌, List, [], ◌∷◌, Bool, true, false, refl}
use Rattle.std.proofs.Common.{sym, ◌∙◌, ap}
use Rattle.std.specs.declared.cmp.Ordering.{Ordering}
use Rattle.std.specs.declared.cmp.Ordering.TheVariants.{Less, Equal, Greater}
use Rattle.std.specs.Ordering.{ordering_reverse, is_le, is_gt}
use Rattle.std.specs.Cmp.{upto}
use Rattle.task_events.specs.declared.request.HitKey.{HitKey}
use Rattle.task_events.specs.HitOrder.{hit_cmp, placed, in_hit_order}
pub use Rattle.task_events.proofs.HitKeys.{hit_cmp_total, hit_cmp_equal}
use Rattle.search_phase.proofs.Sorting.{IsLinear, put, put_all}

abbrev pub stands_first : HitKey → HitKey → Bool
stands_first a b = is_le (hit_cmp a b)

turned : (r : Ordering) → is_le r ≡ false → is_le (ordering_reverse r) ≡ true
turned Less e = absurd cc
turned Equal e = absurd cc
turned Greater e = refl

no_more : (r : Ordering) → is_le r ≡ true → is_gt r ≡ false
no_more Less e = refl
no_more Equal e = refl
no_more Greater e = absurd cc

at_most : (r : Ordering) → is_gt r ≡ false → is_le r ≡ true
at_most Less e = refl
at_most Equal e = refl
at_most Greater e = absurd cc

level : (r : Ordering) → is_le r ≡ true → is_le (ordering_reverse r) ≡ true → r ≡ Equal
level Less e f = absurd cc
level Equal e f = refl
level Greater e f = absurd cc

pub hits_linear : IsLinear stands_first
hits_linear = record {
  turn = λ a b e. ap is_le (hit_cmp_total.antisymm b a) ∙ turned (hit_cmp a b) e;
  trans = λ a b c e f. at_most (hit_cmp a c) (upto hit_cmp_total a b c (no_more (hit_cmp a b) e) (no_more (hit_cmp b c) f));
  same = λ a b e f. hit_cmp_equal a b (level (hit_cmp a b) e (sym (ap is_le (hit_cmp_total.antisymm b a)) ∙ f));
}

pub placed-put : (key : HitKey) (l : List HitKey) → placed key l ≡ put stands_first key l
placed-put key [] = refl
placed-put key (next ∷ later) = rw (placed-put key later) refl

pub in_hit_order-put_all : (keys : List HitKey) → in_hit_order keys ≡ put_all stands_first keys []
in_hit_order-put_all [] = refl
in_hit_order-put_all (key ∷ keys) = placed-put key (in_hit_order keys) ∙ ap (put stands_first key) (in_hit_order-put_all keys)
