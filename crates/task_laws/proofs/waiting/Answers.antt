use Rattle.std.proofs.Common.{◌≡◌, ℕ, Bool, true, false, List, ◌∷◌, refl, arith}
use Rattle.task_ids.specs.declared.task_id.TaskId.{TaskId}
use Rattle.task_events.specs.declared.event.Event.{Event}
use Rattle.task_events.specs.declared.event.Event.TheVariants.{Put}
use Rattle.task_events.specs.Tasks.{is_live, has_ended, descends}
use Rattle.task_events.specs.Laws.{WaitsForDescendants}
use Rattle.task_laws.proofs.Same.{same_tests}
use Rattle.task_laws.proofs.Asks.{AskFacts, ask_facts}
use Rattle.task_laws.proofs.Tree.{TreeFacts, tree_facts, descendant_ended}
use Rattle.task_laws.proofs.waiting.Goals as goal

law : (h : List Event) → AskFacts h → TreeFacts h → WaitsForDescendants h
law h f g = record {
  named = g.done_ended;
  not_live = λ c t e i. grind (arith, f.live_or_ended t, g.done_ended c t e i);
  descendants = λ c a t e i d. descendant_ended a t h f g (g.done_ended c a e i) d (is_live t h) refl;
}

-- what has just been put is live, and so descends from nothing that has ended
not_below : (a t p : TaskId) (k : ℕ) (h : List Event) → AskFacts (Put t p k ∷ h) → TreeFacts (Put t p k ∷ h) → has_ended a (Put t p k ∷ h) ≡ true → (b : Bool) → descends a t (Put t p k ∷ h) ≡ b → descends a t (Put t p k ∷ h) ≡ false
not_below a t p k h f g e false b = b
not_below a t p k h f g e true b =
    let dead = descendant_ended a t (Put t p k ∷ h) f g e b (is_live t (Put t p k ∷ h)) refl in
    absurd (grind (arith, same_tests, dead))

pub returns-clause-ended : goal.returns-clause-ended
returns-clause-ended c = λ cluster h l. law h (ask_facts cluster h l) (tree_facts cluster h l)

pub returns-clause-no_put : goal.returns-clause-no_put
returns-clause-no_put c = λ cluster h d k a t p l e i.
    not_below a t p k h (ask_facts cluster (Put t p k ∷ h) l) (tree_facts cluster (Put t p k ∷ h) l) ((tree_facts cluster h l.1).done_ended d a e i) (descends a t (Put t p k ∷ h)) refl
