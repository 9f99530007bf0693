-- A child's first step is its pass or its refusal.
use Rattle.std.proofs.Common.{◌≡◌, true, false, not, List, [], ◌∷◌, Some, None, refl, arith}
use Rattle.task_ids.specs.declared.task_id.TaskId.{TaskId}
use Rattle.task_ids.specs.declared.cluster.Cluster.{Cluster}
use Rattle.task_events.specs.declared.event.Event.{Event}
use Rattle.task_events.specs.declared.event.Event.TheVariants.{Root, Put, Pass, Refuse, End}
use Rattle.task_events.specs.Tasks.{is_live, is_new, has_passed, parent_of}
use Rattle.task_events.specs.Allowed.{Allowed}
use Rattle.task_events.specs.Lawful.{Lawful}
use Rattle.task_events.specs.Laws.{StepsFirst}
use Rattle.task_laws.proofs.Same.{same_tests}
use Rattle.task_laws.proofs.Asks.{AskFacts, ask_facts}
use Rattle.task_laws.proofs.Late.{LateFacts, late_facts}

module _ (cluster : Cluster) where
  keep_child : (e : Event) (h : List Event) → Allowed cluster e h → AskFacts h → LateFacts h → StepsFirst h → (t p : TaskId) → parent_of t (e ∷ h) ≡ Some p → is_live t (e ∷ h) ≡ true → is_new t (e ∷ h) ≡ not (has_passed t (e ∷ h))
  keep_child (Root c u) h a f g s t p e l = grind (arith, same_tests, s.child t p, f.child_is_born t p)
  keep_child (Put u q k) h a f g s t p e l = grind (arith, same_tests, s.child t p, g.unborn_passed t)
  keep_child (Pass u) h a f g s t p e l = grind (arith, same_tests, s.child t p)
  keep_child (Refuse u c) h a f g s t p e l = grind (arith, same_tests, s.child t p)
  keep_child (End u r) h a f g s t p e l = grind (arith, same_tests, s.child t p)
  keep_child _ h a f g s t p e l = s.child t p e l

  keep_root : (e : Event) (h : List Event) → Allowed cluster e h → StepsFirst h → (t : TaskId) → parent_of t (e ∷ h) ≡ None → (is_new t (e ∷ h) ≡ false) × (has_passed t (e ∷ h) ≡ false)
  keep_root (Put u q k) h a s t e = grind (arith, same_tests, s.root t)
  keep_root (Pass u) h a s t e = grind (arith, same_tests, s.root t)
  keep_root (Refuse u c) h a s t e = grind (arith, same_tests, s.root t)
  keep_root _ h a s t e = s.root t e

  pub steps_first : (h : List Event) → Lawful cluster h → StepsFirst h
  steps_first [] l = record { child = λ t p e i. absurd (cc); root = λ t e. (refl, refl) }
  steps_first (e ∷ h) l = record {
    child = keep_child e h l.0 (ask_facts cluster h l.1) (late_facts cluster h l.1) (steps_first h l.1);
    root = keep_root e h l.0 (steps_first h l.1);
  }
