-- A task and its ancestors, one after the other. Each is there once.
use Rattle.std.proofs.Common.{◌≡◌, ◌≤◌, ◌<◌, ℕ, Bool, cond, List, [], ◌∷◌, refl, arith}
use Rattle.std.specs.List.{list_any}
use Rattle.task_ids.specs.declared.task_id.TaskId.{TaskId}
use Rattle.task_ids.specs.declared.cluster.Cluster.{Cluster}
use Rattle.task_events.specs.declared.event.Event.{Event}
use Rattle.task_events.specs.declared.event.Event.TheVariants.{Root, Put}
use Rattle.task_events.specs.Allowed.{Allowed}
use Rattle.task_events.specs.Lawful.{Lawful}
use Rattle.task_events.specs.Same.{same_task}
use Rattle.task_events.specs.Tasks.{ancestors, last_number}
use Rattle.task_laws.proofs.Asks.{AskFacts, ask_facts, requested_born}
use Rattle.task_laws.proofs.Numbers.{number}
use Rattle.task_laws.proofs.Same.{same_tests}

-- how often t is among w and its ancestors
abbrev pub times_above : TaskId → TaskId → List Event → ℕ
times_above t w h = number (same_task t) (w ∷ ancestors w h)

-- what is counted once at most is counted exactly where it is found
pub found_once : (test : TaskId → Bool) (ts : List TaskId) → number test ts ≤ 1 → cond (list_any test ts) 1 0 ≡ number test ts
found_once test [] l = refl
found_once test (t ∷ ts) l = let rest = found_once test ts (omega (arith, l)) in grind (arith, rest)

pub record ChainFacts (h : List Event) : Type 0 where
  -- a task that does not exist yet is nobody's ancestor
  pub unborn : (t w : TaskId) → last_number t.node h < t.number → number (same_task t) (ancestors w h) ≡ 0
  pub once : (t w : TaskId) → times_above t w h ≤ 1

module _ (cluster : Cluster) where
  keep_unborn : (e : Event) (h : List Event) → Allowed cluster e h → AskFacts h → ChainFacts h → (t w : TaskId) → last_number t.node (e ∷ h) < t.number → number (same_task t) (ancestors w (e ∷ h)) ≡ 0
  keep_unborn (Root c u) h a f g t w l = grind (arith, same_tests, g.unborn t w)
  keep_unborn (Put u p k) h a f g t w l = grind (arith, same_tests, g.unborn t w, g.unborn t p, requested_born p k h f a.requested)
  keep_unborn _ h a f g t w l = g.unborn t w l

  keep_once : (e : Event) (h : List Event) → Allowed cluster e h → AskFacts h → ChainFacts h → (t w : TaskId) → times_above t w (e ∷ h) ≤ 1
  keep_once (Put u p k) h a f g t w = grind (arith, same_tests, g.once t w, g.once t p, g.unborn t p, requested_born p k h f a.requested)
  keep_once _ h a f g t w = g.once t w

  pub chain_facts : (h : List Event) → Lawful cluster h → ChainFacts h
  chain_facts [] l = record { unborn = λ t w i. refl; once = λ t w. grind arith }
  chain_facts (e ∷ h) l =
      let f = ask_facts cluster h l.1 in
      let g = chain_facts h l.1 in
      record { unborn = keep_unborn e h l.0 f g; once = keep_once e h l.0 f g }
