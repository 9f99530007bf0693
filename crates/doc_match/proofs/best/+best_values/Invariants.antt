use Rattle.std.proofs.Common.{◌≡◌, drop, fold, option_map}
use Rattle.serde_json.specs.View.{items_view}
use Rattle.query_match.specs.Found.{found_view}
use Rattle.query_match.specs.Sorting.{better}
use Rattle.query_match.specs.Values.{values_in_each}
use Rattle.doc_match.proofs.best.+best_values.Given as goal

abbrev pub invariant-best_in_each-loop-item : goal.invariant-best_in_each-loop-item
invariant-best_in_each-loop-item l =
    fold (better l.descending) (option_map found_view l.best) (values_in_each (items_view (drop l.item-index l.items))) ≡ fold (better l.descending) (option_map found_view l.initial.best) (values_in_each (items_view l.items))
