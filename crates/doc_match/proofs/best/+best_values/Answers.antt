-- The loop goes on from one item to those after it.
use Rattle.std.proofs.Common.{◌≡◌, ◌+◌, ◌∷◌, sym, ap, ◌∙◌, drop, fold, option_map}
use Rattle.std.proofs.lemmas.List.{drop_more, drop_all}
use Rattle.std.proofs.lemmas.Grind.{fold-append}
use Rattle.serde_json.specs.View.{view, items_view}
use Rattle.query_match.specs.Found.{found_view}
use Rattle.query_match.specs.Sorting.{better}
use Rattle.query_match.specs.Values.{values_in, values_in_each}
use Rattle.doc_match.proofs.best.+best_values.Goals as goal

pub best_in_each-loop-item-preserved : goal.best_in_each-loop-item-preserved
best_in_each-loop-item-preserved t c =
    let items = c.args.items.now in
    let i = c.loop-item.item-index in
    let x = c.item-item.result in
    let step = better c.args.descending in
    let best = option_map found_view c.loop-item.best in
    let later = values_in_each (items_view (drop (i + 1) items)) in
    let here : drop i items ≡ x ∷ drop (i + 1) items = drop_more items i x c.loop-item-test.true ∙ ap (λ y. y ∷ drop (i + 1) items) (sym c.item-item.is) in
    ap (λ o. fold step o later) c.best_in-best.ensures
    ∙ sym (ap (λ l. fold step best (values_in_each (items_view l))) here ∙ fold-append step best (values_in (view x)) later)
    ∙ c.loop-item.invariant

pub best_in_each-returns : goal.best_in_each-returns
best_in_each-returns t c =
    ap (λ l. fold (better c.args.descending) (option_map found_view c.loop-item.best) (values_in_each (items_view l)))
    (sym (drop_all c.loop-item.item-index c.args.items.now c.loop-item-test.false))
    ∙ c.loop-item.invariant
