-- The nodes of a track's unanswered asks are those that the past says.
use Rattle.std.proofs.Common.{◌≡◌, ◌≢◌, ◌⊎◌, ◌<◌, ℕ, zero, suc, ◌+◌, ◌-◌, Bool, true, false, cond, not, List, [], ◌∷◌, ◌++◌, length, get_or, Option, Some, None, refl, sym, ap, ◌∙◌, inl, inr, arith, add-one}
use Rattle.std.specs.Prelude.{◌==◌, ◌||◌, slice_set, filter, nat_lt}
use Rattle.std.specs.List.{list_any}
use Rattle.std.proofs.lemmas.Bool.{eq-eqb, ne_eqb, cases_eq}
use Rattle.std.proofs.lemmas.Bool.Decides.{nat_tests}
use Rattle.std.proofs.lemmas.List.{get_or-set_other}
use Rattle.std.proofs.Math.Seq.{get_or-append_seam}
use Rattle.task_ids.specs.declared.task_id.TaskId.{TaskId}
use Rattle.task_ids.specs.declared.cluster.Cluster.{Cluster}
use Rattle.child_track.specs.declared.nodes.NodeSet.{NodeSet}
use Rattle.child_track.specs.NodeSet.{has_node, nodes_of, nodes_of-from_test, all_nodes as node_numbers}
use Rattle.child_track.specs.Track.{Track, is_at, is_awaited}
use Rattle.task_events.specs.declared.event.Event.{Event}
use Rattle.task_events.specs.declared.event.Event.TheVariants.{Ask, Answered}
use Rattle.task_events.specs.Same.{same_task}
use Rattle.task_events.specs.Asks.{Pending, last_ask, unanswered, unanswered_nodes, all_nodes}
use Rattle.task_events.specs.Lawful.{Lawful}
use Rattle.task_laws.proofs.Asks.{ask_facts}
use Rattle.task_laws.proofs.Numbers.{number, number_is}
use Rattle.task_laws.proofs.Pending.{is_pending}
use Rattle.task_laws.proofs.Reach.{any_at, is_to}
use Rattle.task_laws.proofs.Same.{same_task_tells}
use Rattle.world_moves.specs.Facts.{awaited_by}
use Rattle.world_moves.proofs.AsksCounted.{awaited_counted, answered_number, get_or-grown_other, get_or-set_none}

-- ---- an unanswered ask stands at its place with its node

-- without the ask j the list has what it had of the others
without_ask : (k n j : ℕ) (xs : List Pending) → list_any (is_to k n) (filter (λ a. not (a.ask == j)) xs) ≡ cond (k == j) false (list_any (is_to k n) xs)
without_ask k n j [] = grind (arith, nat_tests)
without_ask k n j (a ∷ xs) = let rest = without_ask k n j xs in grind (arith, nat_tests)

past_end : (n k : ℕ) (xs : List (Option ℕ)) → length xs ≡ k → is_at n (get_or xs k None) ≡ false
past_end n k [] e = refl
past_end n zero (x ∷ xs) e = absurd (omega arith)
past_end n (suc k) (x ∷ xs) e = past_end n k xs (omega arith)

module _ (t : TaskId) (n k : ℕ) where
  -- the list and the place agree
  abbrev Agree : List Event → Type 0
  Agree h = list_any (is_to (k + 1) n) (unanswered t h) ≡ is_at n (get_or (awaited_by t h) k None)

  after_ask : (m j : ℕ) (xs : List (Option ℕ)) (ps : List Pending) → j ≡ length xs + 1 → list_any (is_to (k + 1) n) ps ≡ is_at n (get_or xs k None)
      → list_any (is_to (k + 1) n) (record { ask = j; node = m } ∷ ps) ≡ is_at n (get_or (xs ++ Some m ∷ []) k None)
  after_ask m j xs ps next before = by_case (cases_eq k (length xs))
    where
      by_case : (k ≡ length xs) ⊎ (k ≢ length xs) → list_any (is_to (k + 1) n) (record { ask = j; node = m } ∷ ps) ≡ is_at n (get_or (xs ++ Some m ∷ []) k None)
      by_case (inl last) =
          let none = before ∙ past_end n k xs (sym last) in
          let seam = ap (λ i. is_at n (get_or (xs ++ Some m ∷ []) i None)) last ∙ ap (is_at n) (get_or-append_seam xs (Some m) [] None) in
          let this : (j == (k + 1)) ≡ true = eq-eqb j (k + 1) (omega arith) in
          rw (this, none) (grind (arith, seam))
      by_case (inr other) =
          let that : (j == (k + 1)) ≡ false = ne_eqb j (k + 1) (λ e. other (omega arith)) in
          rw that (before ∙ sym (ap (is_at n) (get_or-grown_other xs (Some m) k other)))

  after_answer : (j : ℕ) (xs : List (Option ℕ)) (ps : List Pending) → 0 < j → list_any (is_to (k + 1) n) ps ≡ is_at n (get_or xs k None)
      → list_any (is_to (k + 1) n) (filter (λ a. not (a.ask == j)) ps) ≡ is_at n (get_or (slice_set xs (j - 1) None) k None)
  after_answer j xs ps low before = by_case (cases_eq (k + 1) j)
    where
      by_case : (k + 1 ≡ j) ⊎ (k + 1 ≢ j) → list_any (is_to (k + 1) n) (filter (λ a. not (a.ask == j)) ps) ≡ is_at n (get_or (slice_set xs (j - 1) None) k None)
      by_case (inl this) =
          let place : j - 1 ≡ k = omega arith in
          without_ask (k + 1) n j ps ∙ ap (λ b. cond b false (list_any (is_to (k + 1) n) ps)) (eq-eqb (k + 1) j this)
          ∙ sym (ap (λ i. is_at n (get_or (slice_set xs i None) k None)) place ∙ ap (is_at n) (get_or-set_none xs k))
      by_case (inr other) =
          without_ask (k + 1) n j ps ∙ ap (λ b. cond b false (list_any (is_to (k + 1) n) ps)) (ne_eqb (k + 1) j other) ∙ before
          ∙ sym (ap (is_at n) (get_or-set_other xs (j - 1) k None None (λ e. other (omega arith))))

  agree : (cluster : Cluster) (h : List Event) → Lawful cluster h → Agree h
  agree cluster [] l = refl
  agree cluster (Ask p j m r ∷ h) l = by_case (same_task_tells t p) (agree cluster h l.1)
    where
      by_case : ((same_task t p ≡ true) × (t ≡ p)) ⊎ ((same_task t p ≡ false) × (t ≢ p)) → Agree h → Agree (Ask p j m r ∷ h)
      by_case (inl (is_one, same)) before =
          let many = awaited_counted cluster t h l.1 in
          let last : last_ask t h ≡ last_ask p h = ap (λ u. last_ask u h) same in
          let next = l.0.next in
          rw is_one (after_ask m j (awaited_by t h) (unanswered t h) (omega arith) before)
      by_case (inr (differs, apart)) before = rw differs before
  agree cluster (Answered p j ∷ h) l = by_case (same_task t p) refl (agree cluster h l.1)
    where
      by_case : (b : Bool) → same_task t p ≡ b → Agree h → Agree (Answered p j ∷ h)
      by_case true is_one before = rw is_one (after_answer j (awaited_by t h) (unanswered t h) (answered_number cluster p j h (ask_facts cluster h l.1) l.0) before)
      by_case false differs before = rw differs before
  agree cluster (_ ∷ h) l = agree cluster h l.1

-- ---- so both have the same nodes

at_some_place : (n : ℕ) (xs : List (Option ℕ)) → list_any (is_at n) xs ≡ true → (k : ℕ) × (is_at n (get_or xs k None) ≡ true)
at_some_place n [] e = absurd (cc)
at_some_place n (x ∷ xs) e = here (is_at n x) refl e (at_some_place n xs)
  where
    here : (b : Bool) → is_at n x ≡ b → (b || list_any (is_at n) xs) ≡ true → (list_any (is_at n) xs ≡ true → (k : ℕ) × (is_at n (get_or xs k None) ≡ true)) → (k : ℕ) × (is_at n (get_or (x ∷ xs) k None) ≡ true)
    here true i f more = (0, i)
    here false i f more = let rest = more f in (suc rest.0, rest.1)

any_place : (n k : ℕ) (xs : List (Option ℕ)) → is_at n (get_or xs k None) ≡ true → list_any (is_at n) xs ≡ true
any_place n k [] e = absurd (cc)
any_place n zero (x ∷ xs) e = rw e refl
any_place n (suc k) (x ∷ xs) e = let rest = any_place n k xs e in grind (arith, rest)

-- an ask of this number, to this node
abbrev HasAsk : ℕ → List Pending → Type 0
HasAsk n ps = (k : ℕ) × (list_any (is_to k n) ps ≡ true) × (list_any (λ a. a.ask == k) ps ≡ true)

some_ask : (n : ℕ) (ps : List Pending) → list_any (λ a. a.node == n) ps ≡ true → HasAsk n ps
some_ask n [] e = absurd (cc)
some_ask n (a ∷ ps) e = here (a.node == n) refl e (some_ask n ps)
  where
    here : (b : Bool) → (a.node == n) ≡ b → (b || list_any (λ a. a.node == n) ps) ≡ true → (list_any (λ a. a.node == n) ps ≡ true → HasAsk n ps) → HasAsk n (a ∷ ps)
    here true i f more = let this : (a.ask == a.ask) ≡ true = eq-eqb a.ask a.ask refl in (a.ask, rw (this, i) refl, rw this refl)
    here false i f more = let rest = more f in let mine = rest.1 in let its = rest.2 in (rest.0, grind (arith, mine), grind (arith, its))

both_ways : (a b : Bool) → (a ≡ true → b ≡ true) → (b ≡ true → a ≡ true) → a ≡ b
both_ways true b f g = sym (f refl)
both_ways false true f g = g refl
both_ways false false f g = refl

counts_any : {X : Type 0} (test : X → Bool) (xs : List X) → nat_lt 0 (number test xs) ≡ list_any test xs
counts_any test [] = refl
counts_any test (x ∷ xs) = let rest = counts_any test xs in grind (arith, nat_tests)

module _ (cluster : Cluster) (t : TaskId) (h : List Event) (l : Lawful cluster h) where
  in_list : (n : ℕ) → list_any (is_at n) (awaited_by t h) ≡ true → list_any (λ a. a.node == n) (unanswered t h) ≡ true
  in_list n e = let at = at_some_place n (awaited_by t h) e in any_at (at.0 + 1) n (unanswered t h) (agree t n at.0 cluster h l ∙ at.1)

  of_list : (n : ℕ) → list_any (λ a. a.node == n) (unanswered t h) ≡ true → list_any (is_at n) (awaited_by t h) ≡ true
  of_list n e = let found = some_ask n (unanswered t h) e in numbered found.0 found.1 found.2
    where
      numbered : (k : ℕ) → list_any (is_to k n) (unanswered t h) ≡ true → list_any (λ a. a.ask == k) (unanswered t h) ≡ true → list_any (is_at n) (awaited_by t h) ≡ true
      numbered zero i f = absurd (let first = (ask_facts cluster h l).first_ask t in let is = is_pending t 0 h in let x : true ≡ false = sym f ∙ sym is ∙ first in cc)
      numbered (suc k) i f = any_place n k (awaited_by t h) (sym (agree t n k cluster h l) ∙ ap (λ j. list_any (is_to j n) (unanswered t h)) (add-one k) ∙ i)

  awaited_node : (track : Track) (n : ℕ) → track.asks ≡ awaited_by t h → is_awaited track n ≡ list_any (λ a. a.node == n) (unanswered t h)
  awaited_node track n e =
      ap (nat_lt 0) (number_is (is_at n) track.asks) ∙ counts_any (is_at n) track.asks ∙ ap (list_any (is_at n)) e ∙ both_ways _ _ (in_list n) (of_list n)

  same_numbers : node_numbers ≡ all_nodes
  unfolding node_numbers all_nodes
  same_numbers = refl

  -- the set of nodes that a track tells has these nodes
  pub asked_nodes : (asked : NodeSet) (track : Track) → ((n : ℕ) → has_node asked n ≡ is_awaited track n) → track.asks ≡ awaited_by t h → nodes_of asked ≡ unanswered_nodes t h
  asked_nodes asked track has asks =
      nodes_of-from_test asked (λ n. list_any (λ a. a.node == n) (unanswered t h)) (λ n. has n ∙ awaited_node track n asks) ∙ ap (filter (λ n. list_any (λ a. a.node == n) (unanswered t h))) same_numbers
