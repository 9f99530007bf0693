-- A loop goes on from one item to those after it.
use Rattle.std.proofs.Common.{◌≡◌, ◌+◌, ◌∷◌, sym, ap, ◌∙◌, drop, fold, option_map, flat_map}
use Rattle.std.proofs.lemmas.List.{drop_more, drop_all}
use Rattle.std.proofs.lemmas.Grind.{flat_map-append, fold-append}
use Rattle.serde_json.specs.View.{view, items_view}
use Rattle.query_match.specs.Found.{found_view}
use Rattle.query_match.specs.Sorting.{better}
use Rattle.query_match.specs.Values.{values_in, held_behind, held_behind_each}
use Rattle.doc_match.proofs.best.+best_held.Goals as goal

pub best_behind_each-loop-item-preserved : goal.best_behind_each-loop-item-preserved
best_behind_each-loop-item-preserved t c =
    let items = c.args.items.now in
    let i = c.loop-item.item-index in
    let x = c.item-item.result in
    let field = c.args.field.now in
    let step = better c.args.descending in
    let best = option_map found_view c.loop-item.best in
    let later = held_behind_each field (items_view (drop (i + 1) items)) in
    let here : drop i items ≡ x ∷ drop (i + 1) items = drop_more items i x c.loop-item-test.true ∙ ap (λ y. y ∷ drop (i + 1) items) (sym c.item-item.is) in
    let both = ap (λ l. flat_map values_in (held_behind_each field (items_view l))) here ∙ flat_map-append values_in (held_behind field (view x)) later in
    ap (λ o. fold step o (flat_map values_in later)) c.best_behind-best.ensures
    ∙ sym (ap (fold step best) both ∙ fold-append step best (flat_map values_in (held_behind field (view x))) (flat_map values_in later))
    ∙ c.loop-item.invariant

pub best_behind_each-returns : goal.best_behind_each-returns
best_behind_each-returns t c =
    ap (λ l. fold (better c.args.descending) (option_map found_view c.loop-item.best) (flat_map values_in (held_behind_each c.args.field.now (items_view l))))
    (sym (drop_all c.loop-item.item-index c.args.items.now c.loop-item-test.false))
    ∙ c.loop-item.invariant
