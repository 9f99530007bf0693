use Rattle.std.proofs.Common.{◌≡◌, drop, fold, option_map}
use Rattle.std.specs.List.{flat_map}
use Rattle.serde_json.specs.View.{items_view, members_view}
use Rattle.query_match.specs.Found.{found_view}
use Rattle.query_match.specs.Sorting.{better}
use Rattle.query_match.specs.Values.{values_in, held_at, held_behind_each}
use Rattle.doc_match.proofs.best.+best_held.Given as goal

abbrev pub invariant-best_by_keys-loop-key : goal.invariant-best_by_keys-loop-key
invariant-best_by_keys-loop-key l =
    fold (better l.descending) (option_map found_view l.best) (flat_map values_in (held_at l.field (members_view l.key-iterator)))
    ≡ fold (better l.descending) (option_map found_view l.initial.best) (flat_map values_in (held_at l.field (members_view l.initial.key-iterator)))

abbrev pub invariant-best_behind_each-loop-item : goal.invariant-best_behind_each-loop-item
invariant-best_behind_each-loop-item l =
    fold (better l.descending) (option_map found_view l.best) (flat_map values_in (held_behind_each l.field (items_view (drop l.item-index l.items))))
    ≡ fold (better l.descending) (option_map found_view l.initial.best) (flat_map values_in (held_behind_each l.field (items_view l.items)))
