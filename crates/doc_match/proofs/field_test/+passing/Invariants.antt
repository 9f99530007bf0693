use Rattle.std.proofs.Common.{◌≡◌, drop}
use Rattle.std.specs.List.{list_any}
use Rattle.serde_json.specs.View.{items_view}
use Rattle.query_match.specs.Matching.{passes}
use Rattle.query_match.specs.Values.{values_in_each}
use Rattle.doc_match.proofs.field_test.+passing.Given as goal

abbrev pub invariant-one_passes-loop-item : goal.invariant-one_passes-loop-item
invariant-one_passes-loop-item l = list_any (passes l.test) (values_in_each (items_view l.items)) ≡ list_any (passes l.test) (values_in_each (items_view (drop l.item-index l.items)))
