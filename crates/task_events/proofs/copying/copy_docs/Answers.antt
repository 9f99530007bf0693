-- Each document is copied.
use Rattle.std.proofs.Common.{◌≡◌, ℕ, ◌+◌, ◌<◌, List, ◌++◌, ◌∷◌, [], sym, ◌∙◌, take, length, get_or}
use Rattle.std.proofs.lemmas.List.{take_more}
use Rattle.task_events.proofs.copying.copy_docs.Goals as goal

one_more : {X : Type 0} (items copies more : List X) (i : ℕ) (item copy : X) → i < length items → item ≡ get_or items i item → copies ≡ take i items → copy ≡ item → more ≡ copies ++ copy ∷ []
    → more ≡ take (i + 1) items
one_more items copies more i item copy l e so_far same pushed =
    pushed ∙ (λ j. so_far j ++ (same ∙ e) j ∷ []) ∙ sym (take_more items i item l)

pub loop-doc-preserved : goal.loop-doc-preserved
loop-doc-preserved c = one_more _ _ _ _ _ _ c.loop-doc-test.true c.doc-item.is c.loop-doc.invariant c.in_ok-copy.ensures c.in_ok-push.ensures.items
