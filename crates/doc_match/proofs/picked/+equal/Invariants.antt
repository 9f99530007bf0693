use Rattle.std.proofs.Common.{◌≡◌, drop}
use Rattle.std.specs.List.{list_any}
use Rattle.serde_json.specs.View.{items_view}
use Rattle.query_match.specs.Matching.{passes}
use Rattle.query_match.specs.declared.query.Test.TheVariants.{Equals}
use Rattle.query_match.specs.Values.{values_in_each}
use Rattle.doc_match.proofs.picked.+equal.Given as goal

abbrev pub invariant-one_equals-loop-item : goal.invariant-one_equals-loop-item
invariant-one_equals-loop-item l =
    list_any (passes (Equals l.wanted)) (values_in_each (items_view l.items)) ≡ list_any (passes (Equals l.wanted)) (values_in_each (items_view (drop l.item-index l.items)))
