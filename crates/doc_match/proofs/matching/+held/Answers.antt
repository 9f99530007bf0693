-- A loop goes on from one item to those after it.
use Rattle.std.proofs.Common.{◌≡◌, ◌+◌, ◌∷◌, sym, ap, ◌∙◌, drop}
use Rattle.std.specs.Prelude.{◌||◌}
use Rattle.std.specs.List.{list_any}
use Rattle.std.proofs.lemmas.List.{drop_more, drop_all}
use Rattle.std.proofs.lemmas.List.Folds.{list_any-append}
use Rattle.serde_json.specs.View.{view, items_view}
use Rattle.query_match.specs.Matching.{holds}
use Rattle.query_match.specs.Values.{held_behind, held_behind_each}
use Rattle.doc_match.proofs.matching.+held.Goals as goal

pub holds_behind_one-returns-then-holds_behind : goal.holds_behind_one-returns-then-holds_behind
holds_behind_one-returns-then-holds_behind t c =
    let items = c.args.items.now in
    let i = c.loop-item.item-index in
    let x = c.item-item.result in
    let test = holds c.args.test.now in
    let field = c.args.field.now in
    let later = held_behind_each field (items_view (drop (i + 1) items)) in
    let here : drop i items ≡ x ∷ drop (i + 1) items = drop_more items i x c.loop-item-test.true ∙ ap (λ y. y ∷ drop (i + 1) items) (sym c.item-item.is) in
    sym (c.loop-item.invariant ∙ ap (λ l. list_any test (held_behind_each field (items_view l))) here
    ∙ list_any-append test (held_behind field (view x)) later ∙ ap (λ b. b || list_any test later) (sym c.holds_behind.ensures ∙ c.if-holds_behind.true))

pub holds_behind_one-loop-item-preserved : goal.holds_behind_one-loop-item-preserved
holds_behind_one-loop-item-preserved t c =
    let items = c.args.items.now in
    let i = c.loop-item.item-index in
    let x = c.item-item.result in
    let test = holds c.args.test.now in
    let field = c.args.field.now in
    let later = held_behind_each field (items_view (drop (i + 1) items)) in
    let here : drop i items ≡ x ∷ drop (i + 1) items = drop_more items i x c.loop-item-test.true ∙ ap (λ y. y ∷ drop (i + 1) items) (sym c.item-item.is) in
    c.loop-item.invariant ∙ ap (λ l. list_any test (held_behind_each field (items_view l))) here
    ∙ list_any-append test (held_behind field (view x)) later ∙ ap (λ b. b || list_any test later) (sym c.holds_behind.ensures ∙ c.if-holds_behind.false)

pub holds_behind_one-returns : goal.holds_behind_one-returns
holds_behind_one-returns t c =
    let test = holds c.args.test.now in
    let field = c.args.field.now in
    sym (c.loop-item.invariant ∙ ap (λ l. list_any test (held_behind_each field (items_view l))) (drop_all c.loop-item.item-index c.args.items.now c.loop-item-test.false))
