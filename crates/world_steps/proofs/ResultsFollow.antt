-- What each event makes of the results that stand, and of what is known of them.
use Rattle.std.proofs.Common.{◌≡◌, ◌≢◌, ◌⊎◌, inl, inr, ℕ, ◌<◌, Bool, true, false, cond, ◌&&◌, List, [], ◌∷◌, Option, Some, None, refl, sym, ap, ◌∙◌, arith}
use Rattle.std.specs.Prelude.{◌==◌}
use Rattle.std.specs.BTreeMap.{is_at}
use Rattle.std.specs.BTreeMap as tree
use Rattle.std.specs.BTreeSet.{contains}
use Rattle.std.specs.Cmp.{eq_by_cmp_equiv}
use Rattle.std.specs.FinMap.{FinMap, get, insert, remove, get-empty, get-insert, get-remove}
use Rattle.std.specs.Option.{option_map_or}
use Rattle.std.specs.Ordering.{nat_cmp}
use Rattle.std.proofs.lemmas.Bool.Decides.{nat_tests}
use Rattle.search_phase.proofs.Sorting.{by_test}
use Rattle.task_ids.proofs.TaskIdKeys.{ids_total}
use Rattle.task_ids.specs.declared.task_id.TaskId.{TaskId}
use Rattle.task_ids.specs.declared.cluster.Cluster.{Cluster}
use Rattle.task_ids.specs.TaskIdOrder.{task_id_cmp}
use Rattle.task_events.specs.declared.event.Event.{Event}
use Rattle.task_events.specs.declared.event.Event.TheVariants.{Begin, Root, Put, Refuse, End}
use Rattle.task_events.specs.declared.reply.Reply.{Reply}
use Rattle.task_events.specs.Lawful.{Lawful}
use Rattle.task_events.specs.Same.{same_task}
use Rattle.task_events.specs.Tasks.{has_ended, is_live, last_number, reply_of}
use Rattle.task_laws.proofs.Asks.{ask_facts}
use Rattle.task_laws.proofs.Same.{same_task_is, same_task_tells, same_tests}
use Rattle.task_results.specs.Results.{Results}
use Rattle.task_results.specs.Stands.{Keeping, is_stored, result_at, results_at}
use Rattle.script_lang.specs.declared.command.Script.{Script}
use Rattle.command_roots.specs.Results.{keeping, stores}
use Rattle.world_moves.proofs.KeptTasks.{is_at_task}
use Rattle.world_steps.specs.declared.results.KnownResults.{KnownResults}
use Rattle.world_steps.specs.Results.{KnowsResults}

-- ---- the map of all results

module _ (script : Keeping) where
  forgot : (o : Option TaskId) (m : FinMap task_id_cmp Reply) (t : TaskId) (r : Option Reply) → get m t ≡ r → get (option_map_or (remove m) o m) t ≡ cond (option_map_or (same_task t) o false) None r
  forgot None m t r is = is
  forgot (Some u) m t r is = get-remove ids_total m u t ∙ ap (λ b. cond b None (get m t)) (is_at_task t u) ∙ ap (cond (same_task t u) None) is

  ended : (u : TaskId) (reply : Reply) (h : List Event) (t : TaskId) → get (results_at script h) t ≡ result_at script t h → get (results_at script (End u reply ∷ h)) t ≡ result_at script t (End u reply ∷ h)
  ended u reply h t is = by_tests (is_stored script u h) (is_stored script t h) (same_task t u) refl (λ same. ap (λ x. is_stored script x h) (same_task_is t u same))
    where
      inserted : get (insert (results_at script h) u reply) t ≡ cond (same_task t u) (Some reply) (get (results_at script h) t)
      inserted = get-insert ids_total (results_at script h) u reply t ∙ ap (λ b. cond b (Some reply) (get (results_at script h) t)) (is_at_task t u)

      by_tests : (b c s : Bool) → same_task t u ≡ s → (s ≡ true → c ≡ b) → get (cond b (insert (results_at script h) u reply) (results_at script h)) t ≡ cond (s && c) (Some reply) (result_at script t h)
      by_tests true true true same agree = inserted ∙ ap (λ x. cond x (Some reply) (get (results_at script h) t)) same
      by_tests true false true same agree = let no = agree refl in absurd (cc)
      by_tests true c false same agree = inserted ∙ ap (λ x. cond x (Some reply) (get (results_at script h) t)) same ∙ is
      by_tests false true true same agree = let no = agree refl in absurd (cc)
      by_tests false false true same agree = is
      by_tests false c false same agree = is

  -- The results of all tasks are those of each.
  pub standing : (h : List Event) (t : TaskId) → get (results_at script h) t ≡ result_at script t h
  standing [] t = get-empty task_id_cmp t
  standing (Begin k ∷ h) t = forgot (script.forgets k h) (results_at script h) t (result_at script t h) (standing h t)
  standing (End u reply ∷ h) t = ended u reply h t (standing h t)
  standing (_ ∷ h) t = standing h t

  -- ---- of which tasks there are results

  -- only of a task that has ended
  pub result_ended : (t : TaskId) (r : Reply) (h : List Event) → result_at script t h ≡ Some r → has_ended t h ≡ true
  result_ended t r [] is = absurd (cc)
  result_ended t r (Begin k ∷ h) is = by_forgotten (option_map_or (same_task t) (script.forgets k h) false) (result_ended t r h) is
    where
      by_forgotten : (b : Bool) → (result_at script t h ≡ Some r → has_ended t h ≡ true) → cond b None (result_at script t h) ≡ Some r → has_ended t h ≡ true
      by_forgotten true rest is' = absurd (cc)
      by_forgotten false rest is' = rest is'
  result_ended t r (Refuse u c ∷ h) is = by_test (same_task t u) (λ same. rw same refl) (λ other. rw other (result_ended t r h is))
  result_ended t r (End u reply ∷ h) is = by_test (same_task t u) (λ same. rw same refl) (λ other. rw other (result_ended t r h (rw other at is)))
  result_ended t r (_ ∷ h) is = result_ended t r h is

  -- and of no live one
  pub none_of_live : (cluster : Cluster) (t : TaskId) (h : List Event) → Lawful cluster h → is_live t h ≡ true → result_at script t h ≡ None
  none_of_live cluster t h lawful live = by_result (result_at script t h) refl
    where
      by_result : (o : Option Reply) → result_at script t h ≡ o → result_at script t h ≡ None
      by_result None is = is
      by_result (Some r) is = absurd (let no : false ≡ true = sym ((ask_facts cluster h lawful).live_or_ended t live) ∙ result_ended t r h is in cc)

  pub not_live : (cluster : Cluster) (t : TaskId) (r : Reply) (h : List Event) → Lawful cluster h → result_at script t h ≡ Some r → is_live t h ≡ false
  not_live cluster t r h lawful stands = by_test (is_live t h) (λ live. absurd (let no : None ≡ Some r = sym (none_of_live cluster t h lawful live) ∙ stands in cc)) (λ gone. gone)

  -- it is the reply of the task
  pub result_is_reply : (cluster : Cluster) (t : TaskId) (r : Reply) (h : List Event) → Lawful cluster h → result_at script t h ≡ Some r → reply_of t h ≡ Some r
  result_is_reply cluster t r [] lawful is = absurd (cc)
  result_is_reply cluster t r (Begin k ∷ h) lawful is = by_forgotten (option_map_or (same_task t) (script.forgets k h) false) (result_is_reply cluster t r h lawful.1) is
    where
      by_forgotten : (b : Bool) → (result_at script t h ≡ Some r → reply_of t h ≡ Some r) → cond b None (result_at script t h) ≡ Some r → reply_of t h ≡ Some r
      by_forgotten true rest is' = absurd (cc)
      by_forgotten false rest is' = rest is'
  result_is_reply cluster t r (Refuse u c ∷ h) lawful is = by_case (same_task_tells t u) (result_is_reply cluster t r h lawful.1 is)
    where
      by_case : ((same_task t u ≡ true) × (t ≡ u)) ⊎ ((same_task t u ≡ false) × (t ≢ u)) → reply_of t h ≡ Some r → reply_of t (Refuse u c ∷ h) ≡ Some r
      by_case (inl (is_one, same)) rest =
          let none = none_of_live cluster t h lawful.1 (ap (λ x. is_live x h) same ∙ lawful.0.live) in
          absurd (let no : None ≡ Some r = sym none ∙ is in cc)
      by_case (inr (differs, apart)) rest = rw differs rest
  result_is_reply cluster t r (End u reply ∷ h) lawful is = by_case (same_task_tells t u) (result_is_reply cluster t r h lawful.1)
    where
      of_own : (b : Bool) → cond b (Some reply) (result_at script t h) ≡ Some r → result_at script t h ≡ None → Some reply ≡ Some r
      of_own true is' none = is'
      of_own false is' none = absurd (let no : None ≡ Some r = sym none ∙ is' in cc)

      by_case : ((same_task t u ≡ true) × (t ≡ u)) ⊎ ((same_task t u ≡ false) × (t ≢ u)) → (result_at script t h ≡ Some r → reply_of t h ≡ Some r) → reply_of t (End u reply ∷ h) ≡ Some r
      by_case (inl (is_one, same)) rest = rw is_one (of_own (is_stored script t h) (rw is_one at is) (none_of_live cluster t h lawful.1 (ap (λ x. is_live x h) same ∙ lawful.0.goes_on.live)))
      by_case (inr (differs, apart)) rest = rw differs (rest (rw differs at is))
  result_is_reply cluster t r (_ ∷ h) lawful is = result_is_reply cluster t r h lawful.1 is

  -- no command stores the reply of a task that has not started
  pub unborn_stored : (cluster : Cluster) (t : TaskId) (h : List Event) → Lawful cluster h → last_number t.node h < t.number → is_stored script t h ≡ false
  unborn_stored cluster t [] lawful low = refl
  unborn_stored cluster t (Root k u ∷ h) lawful low = by_case (same_task_tells t u) (unborn_stored cluster t h lawful.1 (let next = lawful.0.takes.next in grind (arith, same_tests)))
    where
      by_case : ((same_task t u ≡ true) × (t ≡ u)) ⊎ ((same_task t u ≡ false) × (t ≢ u)) → is_stored script t h ≡ false → is_stored script t (Root k u ∷ h) ≡ false
      by_case (inl (is_one, same)) rest = absurd (let node = ap (λ (x : TaskId). x.node) same in let its = ap (λ (x : TaskId). x.number) same in grind (arith, same_tests))
      by_case (inr (differs, apart)) rest = rw differs rest
  unborn_stored cluster t (Put u p k ∷ h) lawful low = unborn_stored cluster t h lawful.1 (let next = lawful.0.takes.next in grind (arith, same_tests))
  unborn_stored cluster t (_ ∷ h) lawful low = unborn_stored cluster t h lawful.1 low

-- ---- what is known

module _ (script : Script) (h : List Event) (old new : KnownResults) (known : KnowsResults script h old) where
  rooted : (k : ℕ) (t : TaskId) → new.table ≡ old.table → ((j : ℕ) → tree.get nat_cmp new.roots j ≡ cond (is_at (nat_cmp k) j) (Some t) (tree.get nat_cmp old.roots j))
      → contains task_id_cmp old.storing t ≡ false → ((q : TaskId) → contains task_id_cmp new.storing q ≡ cond (stores script k && same_task q t) true (contains task_id_cmp old.storing q)) → KnowsResults script (Root k t ∷ h) new
  rooted k t table roots fresh storing = record {
    table = table ∙ known.table;
    storing = λ q. storing q ∙ by_tests q (stores script k) (same_task q t) refl;
    roots = λ j. roots j ∙ ap (λ b. cond b (Some t) (tree.get nat_cmp old.roots j)) (number k j) ∙ ap (cond (j == k) (Some t)) (known.roots j);
  }
    where
      number : (n j : ℕ) → is_at (nat_cmp n) j ≡ (j == n)
      number n j = grind (arith, nat_tests)

      by_tests : (q : TaskId) (s b : Bool) → same_task q t ≡ b → cond (s && b) true (contains task_id_cmp old.storing q) ≡ cond b s (is_stored (keeping script) q h)
      by_tests q true true same = refl
      by_tests q false true same = ap (contains task_id_cmp old.storing) (same_task_is q t same) ∙ fresh
      by_tests q true false same = known.storing q
      by_tests q false false same = known.storing q

  -- the command of a root does not store its reply
  pub rooted_apart : (k : ℕ) (t : TaskId) → new.table ≡ old.table → ((j : ℕ) → tree.get nat_cmp new.roots j ≡ cond (is_at (nat_cmp k) j) (Some t) (tree.get nat_cmp old.roots j))
      → contains task_id_cmp old.storing t ≡ false → stores script k ≡ false → new.storing ≡ old.storing → KnowsResults script (Root k t ∷ h) new
  rooted_apart k t table roots fresh apart same =
      rooted k t table roots fresh (λ q. ap (λ ts. contains task_id_cmp ts q) same ∙ ap (λ b. cond (b && same_task q t) true (contains task_id_cmp old.storing q)) (sym apart))

  -- or it does
  pub rooted_stored : (k : ℕ) (t : TaskId) → new.table ≡ old.table → ((j : ℕ) → tree.get nat_cmp new.roots j ≡ cond (is_at (nat_cmp k) j) (Some t) (tree.get nat_cmp old.roots j))
      → contains task_id_cmp old.storing t ≡ false → stores script k ≡ true → ((q : TaskId) → contains task_id_cmp new.storing q ≡ cond (is_at (task_id_cmp t) q) true (contains task_id_cmp old.storing q)) → KnowsResults script (Root k t ∷ h) new
  rooted_stored k t table roots fresh stored put =
      rooted k t table roots fresh
      (λ q. put q ∙ ap (λ b. cond b true (contains task_id_cmp old.storing q)) ((eq_by_cmp_equiv ids_total).symm t q ∙ is_at_task q t) ∙ ap (λ b. cond (b && same_task q t) true (contains task_id_cmp old.storing q)) (sym stored))

-- the other events change nothing of it
abbrev pub is_of_results : Event → Bool
is_of_results (Begin k) = true
is_of_results (Root k t) = true
is_of_results (End t reply) = true
is_of_results _ = false

pub other_known : (script : Script) (e : Event) (h : List Event) (results : KnownResults) → is_of_results e ≡ false → KnowsResults script h results → KnowsResults script (e ∷ h) results
other_known script (Begin k) h results other known = absurd (cc)
other_known script (Root k t) h results other known = absurd (cc)
other_known script (End t reply) h results other known = absurd (cc)
other_known script _ h results other known = record { table = known.table; storing = known.storing; roots = known.roots }

-- ---- what is found

module _ (script : Script) (h : List Event) (results : KnownResults) (known : KnowsResults script h results) where
  -- the result of a task stands as the table has it
  pub table_has : (t : TaskId) → get results.table.kept t ≡ result_at (keeping script) t h
  table_has t = ap (λ (r : Results). get r.kept t) known.table ∙ standing (keeping script) h t

  -- that of a task that ends does not yet
  pub ends_without : (cluster : Cluster) (t : TaskId) (reply : Reply) → Lawful cluster (End t reply ∷ h) → get results.table.kept t ≡ None
  ends_without cluster t reply lawful = table_has t ∙ none_of_live (keeping script) cluster t h lawful.1 lawful.0.goes_on.live

  -- and the reply of a task that starts is not stored yet
  pub starts_apart : (cluster : Cluster) (k : ℕ) (t : TaskId) → Lawful cluster (Root k t ∷ h) → contains task_id_cmp results.storing t ≡ false
  starts_apart cluster k t lawful = let next = lawful.0.takes.next in known.storing t ∙ unborn_stored (keeping script) cluster t h lawful.1 (omega (arith, next))
