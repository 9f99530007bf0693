-- Which children a listing awaits: those that were put before it ended and are not stopped.
use Rattle.std.proofs.Common.{◌≡◌, ◌≢◌, ◌≤◌, ◌<◌, ℕ, Bool, true, cond, not, List, [], ◌∷◌, Option, Some, None, refl, arith}
use Rattle.task_ids.specs.declared.task_id.TaskId.{TaskId}
use Rattle.task_ids.specs.declared.cluster.Cluster.{Cluster}
use Rattle.task_events.specs.declared.event.Event.{Event}
use Rattle.task_events.specs.declared.event.Event.TheVariants.{Root, Put, Refuse, Mark, Listed, End}
use Rattle.task_events.specs.Same.{same_task}
use Rattle.task_events.specs.Tasks.{is_live, parent_of}
use Rattle.task_events.specs.Bans.{mark_of, put_for, listed_children, is_stopped}
use Rattle.task_events.specs.Allowed.{Allowed}
use Rattle.task_events.specs.Lawful.{Lawful}
use Rattle.task_laws.proofs.Same.{same_tests}
use Rattle.task_laws.proofs.Numbers.{number}
use Rattle.task_laws.proofs.Counts.{is_for}
use Rattle.task_laws.proofs.Asks.{AskFacts, ask_facts}

-- the task t was put on n for p
abbrev pub is_put_for : ℕ → TaskId → TaskId → List Event → Bool
is_put_for n p t h = is_for p n (parent_of t h) t.node

-- how often t stands among the children of p that were listed on n
abbrev pub times_listed : ℕ → TaskId → TaskId → List Event → ℕ
times_listed n p t h = number (same_task t) (listed_children n p h)

-- how many of them are not stopped
abbrev pub unstopped : ℕ → TaskId → List Event → ℕ
unstopped n p h = number (λ t. not (is_stopped t h)) (listed_children n p h)

pub record StopFacts (h : List Event) : Type 0 where
  pub put_once : (n : ℕ) (p t : TaskId) → number (same_task t) (put_for n p h) ≡ cond (is_put_for n p t h) 1 0
  pub listed_put : (n : ℕ) (p t : TaskId) → times_listed n p t h ≤ cond (is_put_for n p t h) 1 0
  pub listed_marked : (n : ℕ) (p t : TaskId) → 0 < times_listed n p t h → is_live t h ≡ true → mark_of t h ≢ None

-- what was put on n for p has this parent and this node
pub put_over : (n : ℕ) (p t : TaskId) (h : List Event) → is_put_for n p t h ≡ true → (parent_of t h ≡ Some p) × (t.node ≡ n)
put_over n p t h e = by_parent (parent_of t h) e
  where
    by_parent : (o : Option TaskId) → is_for p n o t.node ≡ true → (o ≡ Some p) × (t.node ≡ n)
    by_parent None e = absurd (cc)
    by_parent (Some q) e = let same : p ≡ q = grind (arith, same_tests) in let node : t.node ≡ n = grind (arith, same_tests) in (rw same refl, node)

-- a listed child was put
pub listed_over : (n : ℕ) (p t : TaskId) (h : List Event) → StopFacts h → 0 < times_listed n p t h → (parent_of t h ≡ Some p) × (t.node ≡ n)
listed_over n p t h s i = put_over n p t h (grind (arith, s.listed_put n p t))

module _ (cluster : Cluster) where
  keep_put_once : (e : Event) (h : List Event) → Allowed cluster e h → AskFacts h → StopFacts h → (n : ℕ) (p t : TaskId) → number (same_task t) (put_for n p (e ∷ h)) ≡ cond (is_put_for n p t (e ∷ h)) 1 0
  keep_put_once (Put u q k) h a f s n p t = grind (arith, same_tests, s.put_once n p t, f.child_is_born t)
  keep_put_once _ h a f s n p t = s.put_once n p t

  keep_listed_put : (e : Event) (h : List Event) → Allowed cluster e h → AskFacts h → StopFacts h → (n : ℕ) (p t : TaskId) → times_listed n p t (e ∷ h) ≤ cond (is_put_for n p t (e ∷ h)) 1 0
  keep_listed_put (Put u q k) h a f s n p t = grind (arith, same_tests, s.listed_put n p t, f.child_is_born t)
  keep_listed_put (Listed m q) h a f s n p t = grind (arith, same_tests, s.listed_put n p t, s.put_once n p t)
  keep_listed_put _ h a f s n p t = s.listed_put n p t

  keep_listed_marked : (e : Event) (h : List Event) → Allowed cluster e h → AskFacts h → StopFacts h → (n : ℕ) (p t : TaskId) → 0 < times_listed n p t (e ∷ h) → is_live t (e ∷ h) ≡ true → mark_of t (e ∷ h) ≢ None
  keep_listed_marked (Root c u) h a f s n p t i l = grind (arith, same_tests, s.listed_marked n p t i, listed_over n p t h s i, f.child_is_born t p)
  keep_listed_marked (Put u q k) h a f s n p t i l = grind (arith, same_tests, s.listed_marked n p t i, listed_over n p t h s i, f.child_is_born t p)
  keep_listed_marked (Refuse u c) h a f s n p t i l = grind (arith, same_tests, s.listed_marked n p t i)
  keep_listed_marked (End u r) h a f s n p t i l = grind (arith, same_tests, s.listed_marked n p t i)
  keep_listed_marked (Mark u c) h a f s n p t i l = grind (arith, same_tests, s.listed_marked n p t i l)
  keep_listed_marked (Listed m q) h a f s n p t i l = grind (arith, same_tests, s.listed_marked n p t, s.put_once n p t, put_over n p t h, a.all_marked t)
  keep_listed_marked _ h a f s n p t i l = s.listed_marked n p t i l

  pub stop_facts : (h : List Event) → Lawful cluster h → StopFacts h
  stop_facts [] l = record { put_once = λ n p t. refl; listed_put = λ n p t. omega arith; listed_marked = λ n p t i e. absurd (omega arith) }
  stop_facts (e ∷ h) l =
      let f = ask_facts cluster h l.1 in
      let s = stop_facts h l.1 in
      record {
        put_once = keep_put_once e h l.0 f s;
        listed_put = keep_listed_put e h l.0 f s;
        listed_marked = keep_listed_marked e h l.0 f s;
      }
