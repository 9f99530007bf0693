-- What is live where nothing moves.
use Rattle.std.proofs.Common.{◌≡◌, ◌⊎◌, inl, inr, ◌+◌, ◌≤◌, ◌<◌, ℕ, zero, suc, Bool, true, false, cond, List, [], ◌∷◌, length, Option, Some, None, refl, arith}
use Rattle.std.specs.List.{list_any}
use Rattle.task_ids.specs.declared.task_id.TaskId.{TaskId}
use Rattle.task_ids.specs.declared.cluster.Cluster.{Cluster}
use Rattle.task_events.specs.declared.event.Event.{Event}
use Rattle.task_events.specs.declared.event.Event.TheVariants.{Root, Put}
use Rattle.task_events.specs.Same.{same_task}
use Rattle.task_events.specs.Tasks.{is_live, parent_of, ask_of, ancestors, descends, child_of}
use Rattle.task_events.specs.Asks.{is_unanswered, unanswered, Pending}
use Rattle.task_events.specs.Bans.{mark_of}
use Rattle.task_events.specs.Messages.{in_flight}
use Rattle.task_events.specs.Lawful.{Lawful}
use Rattle.task_events.specs.Laws.{IsAtRest, IsLeaf}
use Rattle.task_laws.proofs.Same.{same_tests}
use Rattle.task_laws.proofs.Counts.{is_for}
use Rattle.task_laws.proofs.InFlight.{requests_in_flight, answers_in_flight}
use Rattle.task_laws.proofs.Pending.{is_pending}
use Rattle.task_laws.proofs.Asks.{AskFacts, ask_facts, requested_live}
use Rattle.task_laws.proofs.Tree.{TreeFacts, tree_facts, parent_first}

-- the place of a task's first event in the history, from 1; 0 where it has none
abbrev pub birth : TaskId → List Event → ℕ
birth t [] = 0
birth t (Root c u ∷ h) = cond (same_task t u) (suc (length h)) (birth t h)
birth t (Put u p k ∷ h) = cond (same_task t u) (suc (length h)) (birth t h)
birth t (_ ∷ h) = birth t h

pub birth-le : (t : TaskId) (h : List Event) → birth t h ≤ length h
birth-le t [] = omega arith
birth-le t (Root c u ∷ h) = grind (arith, same_tests, birth-le t h)
birth-le t (Put u p k ∷ h) = grind (arith, same_tests, birth-le t h)
birth-le t (_ ∷ h) = let r = birth-le t h in omega arith

-- a child is born after its parent
pub child_after : (cluster : Cluster) (h : List Event) → Lawful cluster h → (t p : TaskId) → parent_of t h ≡ Some p → birth p h < birth t h
child_after cluster [] l t p e = absurd (cc)
child_after cluster (Root c u ∷ h) l t p e =
    let f = ask_facts cluster h l.1 in
    grind (arith, same_tests, child_after cluster h l.1 t p, f.parent_born t p, f.child_is_born t p)
child_after cluster (Put u q k ∷ h) l t p e =
    let f = ask_facts cluster h l.1 in
    let live = requested_live q k h f l.0.requested in
    grind (arith, same_tests, child_after cluster h l.1 t p, f.parent_born t p, birth-le q h, f.born q live)
child_after cluster (_ ∷ h) l t p e = child_after cluster h l.1 t p e

-- what descends from a child descends from the parent
through_child : (t u : TaskId) (h : List Event) → TreeFacts h → parent_of u h ≡ Some t → (xs : List TaskId) (w : TaskId) → ancestors w h ≡ xs → list_any (same_task u) xs ≡ true → list_any (same_task t) xs ≡ true
through_child t u h g e [] w s d = d
through_child t u h g e (x ∷ ys) w s d =
    let first = parent_first w x ys h g s (parent_of w h) refl in
    let rest = through_child t u h g e ys x first.1 in
    let above = rw e at (g.above u) in
    grind (arith, same_tests, rest)

-- a leaf at the task or below it
abbrev HasLeaf : TaskId → List Event → Type 0
HasLeaf t h = (u : TaskId) × IsLeaf u h × ((u ≡ t) ⊎ (descends t u h ≡ true))

below : (t u : TaskId) (h : List Event) → TreeFacts h → parent_of u h ≡ Some t → (w : TaskId) → (w ≡ u) ⊎ (descends u w h ≡ true) → descends t w h ≡ true
below t u h g e w = elim [
  | inl same ↦ let above = rw e at (g.above u) in grind (arith, same_tests)
  | inr d ↦ through_child t u h g e (ancestors w h) w refl d
]

-- the live child of an ask that is unanswered where nothing is in flight
child_at_rest : (t : TaskId) (k : ℕ) (h : List Event) → AskFacts h → in_flight h ≡ [] → is_unanswered t k h ≡ true → (o : Option TaskId) → child_of t k h ≡ o → (u : TaskId) × (is_live u h ≡ true) × (parent_of u h ≡ Some t)
child_at_rest t k h f q e None o = absurd (
    let r = requests_in_flight t k h in
    let a = answers_in_flight t k h in
    let p = rw (o, e) at (f.place t k) in
    let r' = rw q at r in
    let a' = rw q at a in
    omega arith)
child_at_rest t k h f q e (Some u) o =
    let r = requests_in_flight t k h in
    let a = answers_in_flight t k h in
    let p = rw (o, e) at (f.place t k) in
    let r' = rw q at r in
    let a' = rw q at a in
    (u, live_of (is_live u h) (omega arith), parent_is t k (parent_of u h) (ask_of u h) (f.child_knows t k u o))
  where
    live_of : (b : Bool) → cond {A = ℕ} b 1 0 ≡ 1 → b ≡ true
    live_of true e = refl
    live_of false e = absurd (omega arith)

    parent_is : (t : TaskId) (k : ℕ) (o : Option TaskId) (j : ℕ) → is_for t k o j ≡ true → o ≡ Some t
    parent_is t k None j e = absurd (cc)
    parent_is t k (Some q) j e = grind (arith, same_tests)

first_pending : (t : TaskId) (h : List Event) (a : Pending) (more : List Pending) → unanswered t h ≡ a ∷ more → is_unanswered t a.ask h ≡ true
first_pending t h a more e =
    let p = is_pending t a.ask h in
    let q = rw e at p in
    grind (arith, same_tests)

-- a task with no ask unanswered is a leaf, since marked it could end; another has a live child, which has a leaf
from_child : (t : TaskId) (h : List Event) → AskFacts h → TreeFacts h → IsAtRest h → is_live t h ≡ true → ((u : TaskId) → is_live u h ≡ true → parent_of u h ≡ Some t → HasLeaf u h)
    → (more : List Pending) → unanswered t h ≡ more → (o : Option ℕ) → mark_of t h ≡ o → HasLeaf t h
from_child t h f g r l deeper [] e None m = (t, record { live = l; passed = r.no_first_step t l; unmarked = m; answered = e }, inl refl)
from_child t h f g r l deeper [] e (Some c) m = absurd (r.no_cancelled_end t l (λ n. cc) e)
from_child t h f g r l deeper (a ∷ more) e o m =
    let child = child_at_rest t a.ask h f r.nothing_in_flight (first_pending t h a more e) (child_of t a.ask h) refl in
    let leaf = deeper child.0 child.1 child.2 in
    (leaf.0, leaf.1, inr (below t child.0 h g child.2 leaf.0 leaf.2))

-- a child is born later, so this comes to an end
leaf_within : (cluster : Cluster) (h : List Event) → Lawful cluster h → IsAtRest h → (n : ℕ) (t : TaskId) → length h ≤ birth t h + n → is_live t h ≡ true → HasLeaf t h
leaf_within cluster h l r zero t b i =
    from_child t h (ask_facts cluster h l) (tree_facts cluster h l) r i
    (λ u live p. absurd (let after = child_after cluster h l u t p in let early = birth-le u h in omega arith))
    (unanswered t h) refl (mark_of t h) refl
leaf_within cluster h l r (suc n) t b i =
    from_child t h (ask_facts cluster h l) (tree_facts cluster h l) r i
    (λ u live p. leaf_within cluster h l r n u (let after = child_after cluster h l u t p in omega arith) live)
    (unanswered t h) refl (mark_of t h) refl

pub leaf : (cluster : Cluster) (h : List Event) → Lawful cluster h → IsAtRest h → (t : TaskId) → is_live t h ≡ true → (u : TaskId) × IsLeaf u h × ((u ≡ t) ⊎ (descends t u h ≡ true))
leaf cluster h l r t i = leaf_within cluster h l r (length h) t (omega arith) i
