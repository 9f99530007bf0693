-- The loop goes on from one item to those after it.
use Rattle.std.proofs.Common.{◌≡◌, ◌+◌, ◌∷◌, sym, ap, ◌∙◌, drop}
use Rattle.std.specs.Prelude.{◌||◌}
use Rattle.std.proofs.lemmas.List.{drop_more, drop_all}
use Rattle.serde_json.specs.View.{items_view}
use Rattle.query_match.specs.Values.{some_has_value}
use Rattle.doc_match.proofs.field_test.+valued.Goals as goal

pub some_has_value-returns-then-has_value : goal.some_has_value-returns-then-has_value
some_has_value-returns-then-has_value t c =
    let items = c.args.items.now in
    let i = c.loop-item.item-index in
    let x = c.item-item.result in
    let here : drop i items ≡ x ∷ drop (i + 1) items = drop_more items i x c.loop-item-test.true ∙ ap (λ y. y ∷ drop (i + 1) items) (sym c.item-item.is) in
    sym (c.loop-item.invariant ∙ ap (λ l. some_has_value (items_view l)) here
    ∙ ap (λ b. b || some_has_value (items_view (drop (i + 1) items))) (sym c.has_value.ensures ∙ c.if-has_value.true))

pub some_has_value-loop-item-preserved : goal.some_has_value-loop-item-preserved
some_has_value-loop-item-preserved t c =
    let items = c.args.items.now in
    let i = c.loop-item.item-index in
    let x = c.item-item.result in
    let here : drop i items ≡ x ∷ drop (i + 1) items = drop_more items i x c.loop-item-test.true ∙ ap (λ y. y ∷ drop (i + 1) items) (sym c.item-item.is) in
    c.loop-item.invariant ∙ ap (λ l. some_has_value (items_view l)) here
    ∙ ap (λ b. b || some_has_value (items_view (drop (i + 1) items))) (sym c.has_value.ensures ∙ c.if-has_value.false)

pub some_has_value-returns : goal.some_has_value-returns
some_has_value-returns t c =
    sym (c.loop-item.invariant ∙ ap (λ l. some_has_value (items_view l)) (drop_all c.loop-item.item-index c.args.items.now c.loop-item-test.false))
