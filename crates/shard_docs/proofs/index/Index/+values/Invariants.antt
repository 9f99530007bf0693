use Rattle.std.proofs.Common.{◌≡◌, ℕ, List, true, false, ◌&&◌, drop, ◌⊎◌}
use Rattle.std.specs.List.{list_any}
use Rattle.serde_json.specs.View.{items_view}
use Rattle.query_match.specs.Matching.{passes}
use Rattle.query_match.specs.Values.{values_in_each, same_bytes}
use Rattle.query_match.specs.declared.query.Test.TheVariants.{Equals}
use Rattle.query_match.specs.declared.scalar.Scalar.{Scalar}
use Rattle.shard_docs.specs.Places.{places_of, MayAdd, HasAdded}
use Rattle.shard_docs.proofs.index.Index.+values.Given as goal

-- what is not added yet is in the items that are left, and what is in none of them stays
abbrev pub invariant-add_each-loop-item : goal.invariant-add_each-loop-item
invariant-add_each-loop-item l = MayAdd l.place l.initial.self l.self
    × ((v : Scalar) → list_any (passes (Equals v)) (values_in_each (items_view l.items)) ≡ true
    → HasAdded l.place l.field v l.initial.self l.self ⊎ (list_any (passes (Equals v)) (values_in_each (items_view (drop l.item-index l.items))) ≡ true))
    × ((f : List ℕ) (v : Scalar) → (same_bytes f l.field && list_any (passes (Equals v)) (values_in_each (items_view l.items))) ≡ false
    → (places_of l.self f v ≡ places_of l.initial.self f v) × ((same_bytes f l.field && list_any (passes (Equals v)) (values_in_each (items_view (drop l.item-index l.items)))) ≡ false))
