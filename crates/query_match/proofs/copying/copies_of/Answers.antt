-- Each item is copied.
use Rattle.std.proofs.Common.{◌≡◌, ℕ, ◌+◌, ◌<◌, List, ◌++◌, ◌∷◌, [], sym, ◌∙◌, take, length, get_or}
use Rattle.std.proofs.lemmas.List.{take_more, take_all}
use Rattle.query_match.proofs.copying.copies_of.Goals as goal

one_more : {X : Type 0} (items copies more : List X) (i : ℕ) (item copy : X) → i < length items → item ≡ get_or items i item → copies ≡ take i items → copy ≡ item → more ≡ copies ++ copy ∷ []
    → more ≡ take (i + 1) items
one_more items copies more i item copy l e so_far same pushed =
    pushed ∙ (λ j. so_far j ++ (same ∙ e) j ∷ []) ∙ sym (take_more items i item l)

pub loop-item-init : goal.loop-item-init
loop-item-init g c = c.in_ok-copies.ensures.items

pub loop-item-preserved : goal.loop-item-preserved
loop-item-preserved g c = one_more _ _ _ _ _ _ c.loop-item-test.true c.item-item.is c.loop-item.invariant c.in_ok-copied.ensures c.in_ok-push.ensures.items

pub returns : goal.returns
returns g c = c.loop-item.invariant ∙ take_all c.loop-item.item-index c.args.items.now c.loop-item-test.false
