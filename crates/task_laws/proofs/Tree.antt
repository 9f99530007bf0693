-- Waiting cancellations: what has ended has no live descendant.
use Rattle.std.proofs.Common.{◌≡◌, ℕ, Bool, true, false, List, [], ◌∷◌, Option, Some, None, refl, arith}
use Rattle.std.specs.List.{list_any}
use Rattle.task_ids.specs.declared.task_id.TaskId.{TaskId}
use Rattle.task_ids.specs.declared.cluster.Cluster.{Cluster}
use Rattle.task_events.specs.declared.event.Event.{Event}
use Rattle.task_events.specs.declared.event.Event.TheVariants.{Put, Refuse, Cancel, End, AnswerDone}
use Rattle.task_events.specs.Same.{same_task}
use Rattle.task_events.specs.Tasks.{is_live, has_ended, parent_of, ancestors, descends}
use Rattle.task_events.specs.Cancels.{is_named, is_answered_done}
use Rattle.task_events.specs.Allowed.{Allowed}
use Rattle.task_events.specs.Lawful.{Lawful}
use Rattle.task_laws.proofs.Same.{same_tests}
use Rattle.task_laws.proofs.Asks.{AskFacts, ask_facts, parent_live, requested_live}

-- the ancestors of a child, from its parent
abbrev pub from_parent : (TaskId → List TaskId) → Option TaskId → List TaskId
from_parent above None = []
from_parent above (Some p) = p ∷ above p

pub record TreeFacts (h : List Event) : Type 0 where
  pub above : (t : TaskId) → ancestors t h ≡ from_parent (λ p. ancestors p h) (parent_of t h)
  pub done_ended : (c : ℕ) (t : TaskId) → is_answered_done c h ≡ true → is_named c t h ≡ true → has_ended t h ≡ true

module _ (cluster : Cluster) where
  keep_above : (e : Event) (h : List Event) → Allowed cluster e h → AskFacts h → TreeFacts h → (t : TaskId) → ancestors t (e ∷ h) ≡ from_parent (λ p. ancestors p (e ∷ h)) (parent_of t (e ∷ h))
  keep_above (Put u q k) h a f g t = grind (arith, same_tests, g.above t, f.parent_born t, f.born q (requested_live q k h f a.requested))
  keep_above _ h a f g t = g.above t

  keep_done_ended : (e : Event) (h : List Event) → Allowed cluster e h → AskFacts h → TreeFacts h → (c : ℕ) (t : TaskId) → is_answered_done c (e ∷ h) ≡ true → is_named c t (e ∷ h) ≡ true → has_ended t (e ∷ h) ≡ true
  keep_done_ended (Cancel d u w) h a f g c t e i = grind (arith, same_tests, g.done_ended c t)
  keep_done_ended (AnswerDone d) h a f g c t e i = grind (arith, same_tests, g.done_ended c t, a.ended t)
  keep_done_ended (Refuse u d) h a f g c t e i = grind (arith, same_tests, g.done_ended c t)
  keep_done_ended (End u r) h a f g c t e i = grind (arith, same_tests, g.done_ended c t)
  keep_done_ended _ h a f g c t e i = g.done_ended c t e i

  pub tree_facts : (h : List Event) → Lawful cluster h → TreeFacts h
  tree_facts [] l = record { above = λ t. refl; done_ended = λ c t e i. cc }
  tree_facts (e ∷ h) l = record {
    above = keep_above e h l.0 (ask_facts cluster h l.1) (tree_facts h l.1);
    done_ended = keep_done_ended e h l.0 (ask_facts cluster h l.1) (tree_facts h l.1);
  }

-- the list begins with the parent
pub parent_first : (t x : TaskId) (ys : List TaskId) (h : List Event) → TreeFacts h → ancestors t h ≡ x ∷ ys → (o : Option TaskId) → parent_of t h ≡ o → (parent_of t h ≡ Some x) × (ancestors x h ≡ ys)
parent_first t x ys h g e None o = absurd (let w = g.above t in cc)
parent_first t x ys h g e (Some p) o = let w = rw o at (g.above t) in (cc, cc)

-- no ancestor of a live task has ended
pub ancestors_live : (a : TaskId) (h : List Event) → AskFacts h → TreeFacts h → has_ended a h ≡ true → (xs : List TaskId) (t : TaskId) → ancestors t h ≡ xs → is_live t h ≡ true → list_any (same_task a) xs ≡ false
ancestors_live a h f g e [] t s l = refl
ancestors_live a h f g e (x ∷ ys) t s l =
    let first = parent_first t x ys h g s (parent_of t h) refl in
    let live = parent_live t x h f first.0 l in
    let rest = ancestors_live a h f g e ys x first.1 live in
    grind (arith, same_tests, f.live_or_ended x)

-- so no descendant of what has ended is live
pub descendant_ended : (a t : TaskId) (h : List Event) → AskFacts h → TreeFacts h → has_ended a h ≡ true → descends a t h ≡ true → (b : Bool) → is_live t h ≡ b → is_live t h ≡ false
descendant_ended a t h f g e d false b = b
descendant_ended a t h f g e d true b = absurd (let none = ancestors_live a h f g e (ancestors t h) t refl b in cc)
