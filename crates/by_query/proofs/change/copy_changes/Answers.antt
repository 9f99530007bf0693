-- Each change is copied.
use Rattle.std.proofs.Common.{◌≡◌, ℕ, ◌+◌, ◌<◌, List, ◌++◌, ◌∷◌, [], sym, ◌∙◌, take, length, get_or}
use Rattle.std.proofs.lemmas.List.{take_more}
use Rattle.by_query.proofs.change.copy_changes.Goals as goal

one_more : {X : Type 0} (items copies more : List X) (i : ℕ) (item copy : X) → i < length items → item ≡ get_or items i item → copies ≡ take i items → copy ≡ item → more ≡ copies ++ copy ∷ []
    → more ≡ take (i + 1) items
one_more items copies more i item copy l e so_far same pushed =
    pushed ∙ (λ j. so_far j ++ (same ∙ e) j ∷ []) ∙ sym (take_more items i item l)

pub loop-change-preserved : goal.loop-change-preserved
loop-change-preserved c = one_more _ _ _ _ _ _ c.loop-change-test.true c.change-item.is c.loop-change.invariant c.in_ok-copy.ensures c.in_ok-push.ensures.items
