-- What a set says of a key that was put or taken, from what the answer says of the row of keys.
use Rattle.std.proofs.Common.{◌≡◌, Bool, true, false, List, sym, ◌∙◌, ap, subst, Result, Ok, Err, IfOk, OnOk, OnErr, Ordering}
use Rattle.std.specs.Prelude.{not}
use Rattle.std.specs.Cmp.{IsTotalOrder}
use Rattle.std.specs.List.{list_any}
use Rattle.std.specs.List.Sorted.{IsStrictlySortedBy}
use Rattle.std.specs.Set.{remove_key}
use Rattle.std.specs.BTreeMap.{is_at}
use Rattle.std.specs.BTreeSet.{insert_key, Updates}
use Rattle.ranked.specs.Ranks.{IsPutAnswer, IsTakeAnswer}
use Rattle.ranked.proofs.Keys.{contains_gap, contains_found, insert_key_gap, insert_key_found, remove_key_gap, remove_key_found, sorted_inserted, sorted_removed, updates_inserted, updates_found, updates_absent, updates_removed}

module _ {K : Type 0} {cmp : K → K → Ordering} (laws : IsTotalOrder cmp) (k : K) (old new : List K) where
  module _ {E : Type 0} where
    pub put_added : (r : Result Bool E) → IsPutAnswer cmp old new k r → IfOk r (λ added. added ≡ not (list_any (is_at (cmp k)) old))
    put_added (Ok true) put = ap not (sym (contains_gap laws k old put.rank put.gap))
    put_added (Ok false) put = ap not (sym (contains_found laws k old put.0.rank put.0.found))
    put_added (Err e) put = tt

    pub put_updates : (r : Result Bool E) → IsPutAnswer cmp old new k r → OnOk r (Updates cmp (record { keys = old }) (record { keys = new }) k true)
    put_updates (Ok true) put = subst (λ ks. Updates cmp (record { keys = old }) (record { keys = ks }) k true) (sym put.keys) (updates_inserted laws k old put.rank put.gap)
    put_updates (Ok false) put = subst (λ ks. Updates cmp (record { keys = old }) (record { keys = ks }) k true) (sym put.1) (updates_found laws k old put.0.rank put.0.found)
    put_updates (Err e) put = tt

    pub put_keys : (r : Result Bool E) → IsPutAnswer cmp old new k r → OnOk r (new ≡ insert_key cmp old k)
    put_keys (Ok true) put = put.keys ∙ sym (insert_key_gap laws k old put.rank put.gap)
    put_keys (Ok false) put = put.1 ∙ sym (insert_key_found laws k old put.0.rank put.0.found)
    put_keys (Err e) put = tt

    pub put_absent : (r : Result Bool E) → IsPutAnswer cmp old new k r → OnErr r (list_any (is_at (cmp k)) old ≡ false)
    put_absent (Ok b) put = tt
    put_absent (Err e) put = contains_gap laws k old put.0.rank put.0.gap

    pub put_sorted : (r : Result Bool E) → IsPutAnswer cmp old new k r → IsStrictlySortedBy cmp old → IsStrictlySortedBy cmp new
    put_sorted (Ok true) put sorted = subst (IsStrictlySortedBy cmp) (sym put.keys) (sorted_inserted laws k old put.rank put.gap sorted)
    put_sorted (Ok false) put sorted = subst (IsStrictlySortedBy cmp) (sym put.1) sorted
    put_sorted (Err e) put sorted = subst (IsStrictlySortedBy cmp) (sym put.1) sorted

  pub taken_test : (b : Bool) → IsTakeAnswer cmp old new k b → b ≡ list_any (is_at (cmp k)) old
  taken_test true taken = sym (contains_found laws k old taken.rank taken.found)
  taken_test false taken = sym (contains_gap laws k old taken.0.rank taken.0.gap)

  pub taken_updates : (b : Bool) → IsTakeAnswer cmp old new k b → Updates cmp (record { keys = old }) (record { keys = new }) k false
  taken_updates true taken = subst (λ ks. Updates cmp (record { keys = old }) (record { keys = ks }) k false) (sym taken.keys) (updates_removed laws k old taken.rank taken.found)
  taken_updates false taken = subst (λ ks. Updates cmp (record { keys = old }) (record { keys = ks }) k false) (sym taken.1) (updates_absent laws k old taken.0.rank taken.0.gap)

  pub taken_keys : (b : Bool) → IsTakeAnswer cmp old new k b → new ≡ remove_key (is_at (cmp k)) old
  taken_keys true taken = taken.keys ∙ sym (remove_key_found laws k old taken.rank taken.found)
  taken_keys false taken = taken.1 ∙ sym (remove_key_gap laws k old taken.0.rank taken.0.gap)

  pub taken_sorted : (b : Bool) → IsTakeAnswer cmp old new k b → IsStrictlySortedBy cmp old → IsStrictlySortedBy cmp new
  taken_sorted true taken sorted = subst (IsStrictlySortedBy cmp) (sym taken.keys) (sorted_removed laws k old taken.rank taken.found sorted)
  taken_sorted false taken sorted = subst (IsStrictlySortedBy cmp) (sym taken.1) sorted
