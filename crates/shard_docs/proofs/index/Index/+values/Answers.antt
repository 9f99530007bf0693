use Rattle.std.proofs.Common.{◌≡◌, ℕ, ◌+◌, ◌&&◌, ◌||◌, List, ◌∷◌, Some, option_map, sym, ap, ◌∙◌, drop, ⊎_elim, inl, inr}
use Rattle.std.specs.List.{list_any}
use Rattle.std.proofs.lemmas.List.{drop_more}
use Rattle.std.proofs.lemmas.List.Folds.{list_any-append}
use Rattle.serde_json.specs.View.{view, items_view}
use Rattle.serde_json.specs.declared.value.Value.{Value}
use Rattle.query_match.specs.Matching.{passes}
use Rattle.query_match.specs.Values.{values_in, values_in_each, value_of, same_bytes}
use Rattle.query_match.specs.declared.query.Test.TheVariants.{Equals}
use Rattle.query_match.specs.declared.scalar.Scalar.{Scalar}
use Rattle.query_match.specs.Found.{found_view}
use Rattle.shard_docs.proofs.Adding.{both_may, still_left}
use Rattle.shard_docs.proofs.Keeping.{still_kept, both_behind, one_value}
use Rattle.shard_docs.proofs.index.Index.+values.Goals as goal

-- what is left is in the next item or in the later ones
in_left : (v : Scalar) (x : Value) (left later : List Value) → left ≡ x ∷ later → list_any (passes (Equals v)) (values_in_each (items_view left))
    ≡ list_any (passes (Equals v)) (values_in (view x)) || list_any (passes (Equals v)) (values_in_each (items_view later))
in_left v x left later step =
    ap (λ l. list_any (passes (Equals v)) (values_in_each (items_view l))) step ∙ list_any-append (passes (Equals v)) (values_in (view x)) (values_in_each (items_view later))

at_left : (field f : List ℕ) (v : Scalar) (x : Value) (left later : List Value) → left ≡ x ∷ later → (same_bytes f field && list_any (passes (Equals v)) (values_in_each (items_view left)))
    ≡ ((same_bytes f field && list_any (passes (Equals v)) (values_in (view x))) || (same_bytes f field && list_any (passes (Equals v)) (values_in_each (items_view later))))
at_left field f v x left later step =
    ap (λ b. same_bytes f field && b) (in_left v x left later step)
    ∙ both_behind (same_bytes f field) (list_any (passes (Equals v)) (values_in (view x))) (list_any (passes (Equals v)) (values_in_each (items_view later)))

pub add_each-loop-item-preserved : goal.add_each-loop-item-preserved
add_each-loop-item-preserved t c =
    let items = c.args.items.now in
    let i = c.loop-item.item-index in
    let x = c.item-item.result in
    let place = c.args.place in
    let first = c.args.self.now in
    let here : drop i items ≡ x ∷ drop (i + 1) items = drop_more items i x c.loop-item-test.true ∙ ap (λ y. y ∷ drop (i + 1) items) (sym c.item-item.is) in
    let next = c.add_values.new.self in
    let mid = c.loop-item.self in (
      both_may place first mid next c.loop-item.invariant.0 c.in_ok-add_values.ensures.others,
      λ v any.
          let in_this = list_any (passes (Equals v)) (values_in (view x)) in
          let in_later = list_any (passes (Equals v)) (values_in_each (items_view (drop (i + 1) items))) in
          let parts = in_left v x (drop i items) (drop (i + 1) items) here in
          still_left place first mid next c.args.field.now v in_this in_later
          (⊎_elim (λ had. inl had) (λ left. inr (sym parts ∙ left)) (c.loop-item.invariant.1 v any)) c.loop-item.invariant.0 c.in_ok-add_values.ensures.others (c.in_ok-add_values.ensures.added v),
      λ f v none.
          let field = c.args.field.now in
          let stays = c.loop-item.invariant.2 f v none in
          still_kept first mid next f v (same_bytes f field && list_any (passes (Equals v)) (values_in (view x)))
          (same_bytes f field && list_any (passes (Equals v)) (values_in_each (items_view (drop (i + 1) items))))
          (stays.0, sym (at_left field f v x (drop i items) (drop (i + 1) items) here) ∙ stays.1) (c.in_ok-add_values.ensures.kept f v),
    )

pub add_each-returns-in_err-add_values-clause-kept : goal.add_each-returns-in_err-add_values-clause-kept
add_each-returns-in_err-add_values-clause-kept t c = λ f v none.
    let items = c.args.items.now in
    let field = c.args.field.now in
    let i = c.loop-item.item-index in
    let x = c.item-item.result in
    let here : drop i items ≡ x ∷ drop (i + 1) items = drop_more items i x c.loop-item-test.true ∙ ap (λ y. y ∷ drop (i + 1) items) (sym c.item-item.is) in
    let stays = c.loop-item.invariant.2 f v none in
    (still_kept c.args.self.now c.loop-item.self c.add_values.new.self f v (same_bytes f field && list_any (passes (Equals v)) (values_in (view x)))
    (same_bytes f field && list_any (passes (Equals v)) (values_in_each (items_view (drop (i + 1) items))))
    (stays.0, sym (at_left field f v x (drop i items) (drop (i + 1) items) here) ∙ stays.1) (c.in_err-add_values.ensures.kept f v)).0

pub add_each-returns-clause-kept : goal.add_each-returns-clause-kept
add_each-returns-clause-kept t c = λ f v none. (c.loop-item.invariant.2 f v none).0

pub add_values-returns-in_ok-value-in-Some-clause-kept : goal.add_values-returns-in_ok-value-in-Some-clause-kept
add_values-returns-in_ok-value-in-Some-clause-kept t c = λ f v none.
    let x = c.in_ok-value-in-Some.value in
    let d = view c.args.value.now in
    let found : value_of d ≡ Some x = sym c.value_in.ensures ∙ ap (option_map found_view) c.in-Some.is ∙ ap Some (sym c.in_ok-value-in-Some.ensures) in
    c.add_value.ensures.kept f v (ap (λ b. same_bytes f c.args.field.now && b) (one_value d x v found) ∙ none)
