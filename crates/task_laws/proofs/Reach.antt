-- The bans of a marked task go to each node on which it may have a live child; and every task's node is one of the
-- cluster's.
use Rattle.std.proofs.Common.{◌≡◌, ◌≢◌, ◌≤◌, ℕ, zero, suc, Bool, true, false, cond, not, ◌&&◌, List, [], ◌∷◌, Some, None, refl, ap, ◌∙◌, arith}
use Rattle.std.specs.Prelude.{filter, ◌==◌}
use Rattle.std.specs.List.{list_any}
use Rattle.std.proofs.lemmas.List.Elements.{filter-append}
use Rattle.std.proofs.lemmas.List.Folds.{list_any-append}
use Rattle.task_ids.specs.declared.task_id.TaskId.{TaskId}
use Rattle.task_ids.specs.declared.cluster.Cluster.{Cluster}
use Rattle.task_events.specs.declared.event.Event.{Event}
use Rattle.task_events.specs.declared.event.Event.TheVariants.{Root, Ask, Put, Refuse, Mark, Answered, End}
use Rattle.task_events.specs.Same.{same_task}
use Rattle.task_events.specs.Tasks.{is_live, child_of, parent_of, ask_of}
use Rattle.task_events.specs.Asks.{Pending, is_unanswered, unanswered, node_of_ask, up_to, all_nodes, unanswered_nodes}
use Rattle.task_events.specs.Bans.{mark_of, banned_nodes}
use Rattle.task_events.specs.Allowed.{Allowed}
use Rattle.task_events.specs.Lawful.{Lawful}
use Rattle.task_events.specs.Laws.{is_banned}
use Rattle.task_laws.proofs.Same.{same_tests}
use Rattle.task_laws.proofs.Counts.{is_child_of}
use Rattle.task_laws.proofs.Asks.{AskFacts, ask_facts, child_unanswered}

-- an ask of this number to this node
abbrev pub is_to : ℕ → ℕ → Pending → Bool
is_to k n a = (a.ask == k) && (a.node == n)

-- without the ask j the list has what it had of the other asks
others : (k n j : ℕ) → k ≢ j → (xs : List Pending) → list_any (is_to k n) xs ≡ true → list_any (is_to k n) (filter (λ a. not (a.ask == j)) xs) ≡ true
others k n j d [] e = e
others k n j d (a ∷ xs) e = let rest = others k n j d xs in grind (arith, same_tests, rest)

-- an unanswered ask stands in the list with its node
pending_to : (p : TaskId) (k n : ℕ) (h : List Event) → is_unanswered p k h ≡ true → node_of_ask p k h ≡ Some n → list_any (is_to k n) (unanswered p h) ≡ true
pending_to p k n [] u e = u
pending_to p k n (Ask q j m w ∷ h) u e = let rest = pending_to p k n h in grind (arith, same_tests, rest)
pending_to p k n (Answered q j ∷ h) u e = let rest = pending_to p k n h in grind (arith, same_tests, rest, others k n j)
pending_to p k n (_ ∷ h) u e = pending_to p k n h u e

pub any_at : (k n : ℕ) (xs : List Pending) → list_any (is_to k n) xs ≡ true → list_any (λ a. a.node == n) xs ≡ true
any_at k n [] e = e
any_at k n (a ∷ xs) e = let rest = any_at k n xs in grind (arith, rest)

-- a node of the cluster that passes a test is among those that pass it
passing : (test : ℕ → Bool) (n m : ℕ) → 1 ≤ n → n ≤ m → test n ≡ true → list_any (λ x. n == x) (filter test (up_to m)) ≡ true
passing test n zero i j e = absurd (omega arith)
passing test n (suc m) i j e =
    let split = ap (list_any (λ x. n == x)) (filter-append test (up_to m) (suc m ∷ [])) ∙ list_any-append (λ x. n == x) (filter test (up_to m)) (filter test (suc m ∷ [])) in
    let rest = passing test n m i in
    grind (arith, same_tests, rest)

passing_node : (test : ℕ → Bool) (n : ℕ) → 1 ≤ n → n ≤ 15 → test n ≡ true → list_any (λ x. n == x) (filter test all_nodes) ≡ true
unfolding all_nodes
passing_node test n i j e = passing test n 15 i j e

pub record ReachFacts (cluster : Cluster) (h : List Event) : Type 0 where
  pub child_node : (p : TaskId) (k : ℕ) (t : TaskId) → child_of p k h ≡ Some t → node_of_ask p k h ≡ Some t.node
  pub low : (p : TaskId) (k n : ℕ) → node_of_ask p k h ≡ Some n → 1 ≤ n
  pub high : (p : TaskId) (k n : ℕ) → node_of_ask p k h ≡ Some n → n ≤ cluster.nodes
  pub reach : (p : TaskId) (k n : ℕ) → mark_of p h ≢ None → is_unanswered p k h ≡ true → node_of_ask p k h ≡ Some n → is_banned n p h ≡ true
  pub live_in : (t : TaskId) → is_live t h ≡ true → t.node ≤ cluster.nodes

module _ (cluster : Cluster) where
  keep_child_node : (e : Event) (h : List Event) → Allowed cluster e h → AskFacts h → ReachFacts cluster h → (p : TaskId) (k : ℕ) (t : TaskId) → child_of p k (e ∷ h) ≡ Some t → node_of_ask p k (e ∷ h) ≡ Some t.node
  keep_child_node (Ask q j n w) h a f r p k t e = grind (arith, same_tests, r.child_node p k t, f.no_child p k)
  keep_child_node (Put u q j) h a f r p k t e = grind (arith, same_tests, r.child_node p k t)
  keep_child_node _ h a f r p k t e = r.child_node p k t e

  keep_low : (e : Event) (h : List Event) → Allowed cluster e h → ReachFacts cluster h → (p : TaskId) (k n : ℕ) → node_of_ask p k (e ∷ h) ≡ Some n → 1 ≤ n
  keep_low (Ask q j m w) h a r p k n e = grind (arith, same_tests, r.low p k n)
  keep_low _ h a r p k n e = r.low p k n e

  keep_high : (e : Event) (h : List Event) → Allowed cluster e h → ReachFacts cluster h → (p : TaskId) (k n : ℕ) → node_of_ask p k (e ∷ h) ≡ Some n → n ≤ cluster.nodes
  keep_high (Ask q j m w) h a r p k n e = grind (arith, same_tests, r.high p k n)
  keep_high _ h a r p k n e = r.high p k n e

  -- the mark that comes now bans the nodes of all unanswered asks
  marked_now : (p : TaskId) (h : List Event) → ReachFacts cluster h → (k n : ℕ) → is_unanswered p k h ≡ true → node_of_ask p k h ≡ Some n → list_any (λ m. n == m) (unanswered_nodes p h) ≡ true
  marked_now p h r k n u e =
      let i = r.low p k n e in
      let j = r.high p k n e in
      let m : n ≤ 15 = omega (arith, cluster.nodes_in_range.1) in
      passing_node (λ m. list_any (λ a. a.node == m) (unanswered p h)) n i m (any_at k n (unanswered p h) (pending_to p k n h u e))

  choose : (c : Bool) (n : ℕ) (xs ys : List ℕ) → (c ≡ true → list_any (λ m. n == m) xs ≡ true) → (c ≡ false → list_any (λ m. n == m) ys ≡ true) → list_any (λ m. n == m) (cond c xs ys) ≡ true
  choose true n xs ys a b = a refl
  choose false n xs ys a b = b refl

  keep_reach : (e : Event) (h : List Event) → Allowed cluster e h → ReachFacts cluster h → (p : TaskId) (k n : ℕ) → mark_of p (e ∷ h) ≢ None → is_unanswered p k (e ∷ h) ≡ true → node_of_ask p k (e ∷ h) ≡ Some n → is_banned n p (e ∷ h) ≡ true
  keep_reach (Ask q j m w) h a r p k n i u e = grind (arith, same_tests, r.reach p k n)
  keep_reach (Answered q j) h a r p k n i u e = grind (arith, same_tests, r.reach p k n)
  keep_reach (Mark q c) h a r p k n i u e = choose (same_task p q) n (unanswered_nodes p h) (banned_nodes p h) (λ s. marked_now p h r k n u e) (λ s. r.reach p k n (rw s at i) u e)
  keep_reach _ h a r p k n i u e = r.reach p k n i u e

  keep_live_in : (e : Event) (h : List Event) → Allowed cluster e h → ReachFacts cluster h → (t : TaskId) → is_live t (e ∷ h) ≡ true → t.node ≤ cluster.nodes
  keep_live_in (Root c u) h a r t l = grind (arith, same_tests, r.live_in t)
  keep_live_in (Put u q j) h a r t l = let n = r.high q j u.node a.node in grind (arith, same_tests, r.live_in t)
  keep_live_in (Refuse u c) h a r t l = grind (arith, same_tests, r.live_in t)
  keep_live_in (End u s) h a r t l = grind (arith, same_tests, r.live_in t)
  keep_live_in _ h a r t l = r.live_in t l

  pub reach_facts : (h : List Event) → Lawful cluster h → ReachFacts cluster h
  reach_facts [] l = record {
    child_node = λ p k t e. absurd (cc);
    low = λ p k n e. absurd (cc);
    high = λ p k n e. absurd (cc);
    reach = λ p k n i u e. cc;
    live_in = λ t e. absurd (cc);
  }
  reach_facts (e ∷ h) l =
      let f = ask_facts cluster h l.1 in
      let r = reach_facts h l.1 in
      record {
        child_node = keep_child_node e h l.0 f r;
        low = keep_low e h l.0 r;
        high = keep_high e h l.0 r;
        reach = keep_reach e h l.0 r;
        live_in = keep_live_in e h l.0 r;
      }

-- the node of a live child is banned where its parent is marked
pub reach_live : (cluster : Cluster) (t p : TaskId) (h : List Event) → AskFacts h → ReachFacts cluster h → mark_of p h ≢ None → parent_of t h ≡ Some p → is_live t h ≡ true → is_banned t.node p h ≡ true
reach_live cluster t p h f r i e l =
    let mine : is_child_of p (ask_of t h) t h ≡ true = rw e (grind (arith, same_tests)) in
    let child = f.ask_knows p (ask_of t h) t mine in
    r.reach p (ask_of t h) t.node i (child_unanswered t p h f e l) (r.child_node p (ask_of t h) t child)
