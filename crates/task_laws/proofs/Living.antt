-- The list of live tasks.
use Rattle.std.proofs.Common.{◌≡◌, ◌+◌, ◌-◌, ℕ, Bool, true, false, cond, not, List, [], ◌∷◌, refl, arith}
use Rattle.std.specs.Prelude.{filter, ◌==◌}
use Rattle.task_ids.specs.declared.task_id.TaskId.{TaskId}
use Rattle.task_ids.specs.declared.cluster.Cluster.{Cluster}
use Rattle.task_events.specs.declared.event.Event.{Event}
use Rattle.task_events.specs.declared.event.Event.TheVariants.{Root, Put, Refuse, End}
use Rattle.task_events.specs.Same.{same_task}
use Rattle.task_events.specs.Tasks.{is_live, live_tasks, live_on}
use Rattle.task_events.specs.Allowed.{Allowed}
use Rattle.task_events.specs.Lawful.{Lawful}
use Rattle.task_laws.proofs.Same.{same_tests}
use Rattle.task_laws.proofs.Numbers.{number}
use Rattle.task_laws.proofs.Asks.{AskFacts, ask_facts}

-- what is left of a count without the task u, where that of u is known
left_out : (test : TaskId → Bool) (u : TaskId) (b : Bool) → test u ≡ b → (xs : List TaskId) → number test (filter (λ x. not (same_task u x)) xs) + cond b (number (same_task u) xs) 0 ≡ number test xs
left_out test u true e [] = refl
left_out test u false e [] = refl
left_out test u true e (x ∷ xs) = let rest = left_out test u true e xs in grind (arith, same_tests)
left_out test u false e (x ∷ xs) = let rest = left_out test u false e xs in grind (arith, same_tests)

pub record LivingFacts (h : List Event) : Type 0 where
  pub once : (t : TaskId) → number (same_task t) (live_tasks h) ≡ cond (is_live t h) 1 0
  pub on_node : (n : ℕ) → number (λ t. n == t.node) (live_tasks h) ≡ live_on n h

module _ (cluster : Cluster) where
  -- what a task that ends leaves
  without_once : (u t : TaskId) (h : List Event) → LivingFacts h → is_live u h ≡ true → number (same_task t) (filter (λ x. not (same_task u x)) (live_tasks h)) ≡ cond (same_task t u) 0 (cond (is_live t h) 1 0)
  without_once u t h f l =
      let rest = left_out (same_task t) u (same_task t u) refl (live_tasks h) in
      let this = f.once u in
      let that = f.once t in
      grind (arith, same_tests)

  without_node : (u : TaskId) (n : ℕ) (h : List Event) → LivingFacts h → is_live u h ≡ true → number (λ t. n == t.node) (filter (λ x. not (same_task u x)) (live_tasks h)) ≡ live_on n h - cond (n == u.node) 1 0
  without_node u n h f l =
      let rest = left_out (λ t. n == t.node) u (n == u.node) refl (live_tasks h) in
      let this = f.once u in
      let all = f.on_node n in
      grind (arith, same_tests)

  keep_once : (e : Event) (h : List Event) → Allowed cluster e h → AskFacts h → LivingFacts h → (t : TaskId) → number (same_task t) (live_tasks (e ∷ h)) ≡ cond (is_live t (e ∷ h)) 1 0
  keep_once (Root c u) h a f g t = grind (arith, same_tests, g.once t, f.born t)
  keep_once (Put u p k) h a f g t = grind (arith, same_tests, g.once t, f.born t)
  keep_once (Refuse u c) h a f g t = let x = without_once u t h g a.live in grind (arith, same_tests)
  keep_once (End u r) h a f g t = let x = without_once u t h g a.goes_on.live in grind (arith, same_tests)
  keep_once _ h a f g t = g.once t

  keep_on_node : (e : Event) (h : List Event) → Allowed cluster e h → LivingFacts h → (n : ℕ) → number (λ t. n == t.node) (live_tasks (e ∷ h)) ≡ live_on n (e ∷ h)
  keep_on_node (Root c u) h a g n = let x = g.on_node n in omega arith
  keep_on_node (Put u p k) h a g n = let x = g.on_node n in omega arith
  keep_on_node (Refuse u c) h a g n = without_node u n h g a.live
  keep_on_node (End u r) h a g n = without_node u n h g a.goes_on.live
  keep_on_node _ h a g n = g.on_node n

  pub living_facts : (h : List Event) → Lawful cluster h → LivingFacts h
  living_facts [] l = record { once = λ t. refl; on_node = λ n. refl }
  living_facts (e ∷ h) l = record {
    once = keep_once e h l.0 (ask_facts cluster h l.1) (living_facts h l.1);
    on_node = keep_on_node e h l.0 (living_facts h l.1);
  }
