-- The past and the tables after a cancel has named one more task.
use Rattle.std.proofs.Common.{◌≡◌, ◌≢◌, ◌⊎◌, ◌+◌, ℕ, Bool, true, false, not, cond, List, [], ◌∷◌, ◌++◌, filter, length, Option, Some, None, inl, inr, refl, sym, ap, subst, ◌∙◌, arith}
use Rattle.std.specs.Prelude.{◌&&◌, ◌||◌, ◌==◌, slice_get, unwrap_or, is_some, if◌then◌else◌}
use Rattle.std.specs.List.{list_any}
use Rattle.std.specs.BTreeSet.{BTreeSet}
use Rattle.std.specs.FinMap.{FinMap}
use Rattle.std.proofs.lemmas.Bool.{eq-eqb}
use Rattle.std.proofs.lemmas.Bool.Decides.{nat_tests}
use Rattle.std.proofs.lemmas.List.{length-append}
use Rattle.std.proofs.lemmas.List.Elements.{filter-append}
use Rattle.task_ids.specs.declared.task_id.TaskId.{TaskId}
use Rattle.task_ids.specs.declared.cluster.Cluster.{Cluster}
use Rattle.task_ids.specs.declared.corpus.Corpus.{Corpus}
use Rattle.task_ids.specs.TaskIdOrder.{task_id_cmp}
use Rattle.task_table.specs.Table.{Table}
use Rattle.cancel_core.specs.Cancellation.{Cancellation}
use Rattle.cancel_core.specs.Cancellations.{Cancellations}
use Rattle.script_lang.specs.declared.command.Script.{Script}
use Rattle.task_events.specs.declared.event.Event.{Event}
use Rattle.task_events.specs.declared.event.Event.TheVariants.{Cancel, Mark}
use Rattle.task_events.specs.Same.{same_task}
use Rattle.task_events.specs.Tasks.{is_live, has_ended}
use Rattle.task_events.specs.Bans.{mark_of, bans_are_placed}
use Rattle.task_events.specs.Cancels.{is_named, waits}
use Rattle.task_events.specs.Lawful.{AwaitsNoMark, Lawful}
use Rattle.task_laws.proofs.Numbers.{both}
use Rattle.task_laws.proofs.Same.{same_task_tells, same_pair_refl, same_tests}
use Rattle.world_moves.specs.declared.flight.Sent.{Sent}
use Rattle.node_parts.specs.declared.listing.Listing.{Listing}
use Rattle.node_parts.specs.declared.running.Running.{Running}
use Rattle.world_moves.specs.Cancels.{waiting_for, waits_for_end, named_by, tasks_named, is_answered, is_through, left_of, with_cancel}
use Rattle.world_moves.specs.Cancelling.{Cancelling, HasCoreAt, HasListingsAt, HasRows, HasBansAt, IsEntryOf, is_under_way, waiting_but}
use Rattle.world_moves.specs.Left.{HasLeft}
use Rattle.command_roots.specs.Roots.{scripted}
use Rattle.world_moves.specs.Ties.{Ties}
use Rattle.world_moves.proofs.CancelFrame.{entry_frame, cores_kept}
use Rattle.world_moves.proofs.FlightAfter.{all_stay}
use Rattle.world_moves.proofs.KeptTasks.{kept_same}
use Rattle.world_moves.proofs.NodeTablesSame.{listed_same}
use Rattle.world_moves.proofs.NamedCancels.{is_in, named_in, named_waits, in_filter, filter_same}
use Rattle.world_moves.proofs.NodeTables.{no_entry}
use Rattle.world_moves.proofs.TasksNamed.{task_in}
use Rattle.world_moves.proofs.QuietListings.{quiet_listings}
use Rattle.world_moves.proofs.WaitsAfter.{waits_stay}
use Rattle.world_steps.specs.Naming.{IsNaming}

-- filters that agree on the tasks of a list
tasks_same : (p q : TaskId → Bool) (ts : List TaskId) → ((u : TaskId) → list_any (same_task u) ts ≡ true → p u ≡ q u) → filter p ts ≡ filter q ts
tasks_same p q [] agree = refl
tasks_same p q (t ∷ ts) agree =
    let first : p t ≡ q t = agree t (grind (arith, same_tests)) in
    let rest = tasks_same p q ts (λ u i. agree u (grind (arith, i))) in
    rw (first, rest) refl

module _ (cluster : Cluster) (h : List Event) (c : ℕ) (t : TaskId) (wait : Bool) (naming : IsNaming c wait h) (l : Lawful cluster h) (awaits : AwaitsNoMark h) (live : is_live t h ≡ true) (fresh : is_named c t h ≡ false) where
  pub cancel_lawful : Lawful cluster (Cancel c t wait ∷ h)
  cancel_lawful = (
    record { current = naming.current; live = live; once = fresh; one_kind = naming.one_kind; not_placed = naming.not_placed; not_done = naming.not_done; not_missing = naming.not_missing },
    l,
    awaits,
  )

  pub mark_lawful : mark_of t h ≡ None → Lawful cluster (Mark t c ∷ Cancel c t wait ∷ h)
  mark_lawful unmarked = (
    record { live = live; unmarked = unmarked; cause = rw (same_pair_refl t c) refl; lowest = λ e. absurd (let other = rw (same_pair_refl t c) at e in cc) },
    cancel_lawful,
    λ none. same_pair_refl t c,
  )

  pub ties_after_cancel : (corpus : Corpus) (script : Script) (tasks : TaskId → Option Running) (tables : List Table) (flight : List Sent) → Ties cluster corpus script h tasks tables flight
      → Ties cluster corpus script (Cancel c t wait ∷ h) tasks tables flight
  ties_after_cancel corpus script tasks tables flight ties = record {
    lawful = cancel_lawful;
    kept = kept_same cluster corpus (scripted script) (Cancel c t wait) h tasks refl refl ties.kept;
    listed = λ place. listed_same cluster (Cancel c t wait) h (λ n. refl) refl place _ (ties.listed place);
    sent = all_stay (Cancel c t wait) h flight _ ties.sent;
    good = ties.good;
    within = ties.within;
    plain = ties.plain;
  }

  itself : same_task t t ≡ true
  itself = grind (arith, same_tests)

  -- ---- who waits

  -- it has named the others in the same way
  as_before : (u : TaskId) → is_named c u h ≡ true → waits_for_end c h ≡ wait
  as_before u n = sym (naming.one_kind (waits_for_end c h) (named_waits c u h n))

  pub waits_as_told : waits_for_end c (Cancel c t wait ∷ h) ≡ wait
  waits_as_told = ap (λ b. unwrap_or (cond b (Some wait) (waits c h)) false) (eq-eqb c c refl)

  waits_same : (k : ℕ) (u : TaskId) → is_named k u h ≡ true → waits_for_end k (Cancel c t wait ∷ h) ≡ waits_for_end k h
  waits_same k u n = by_number (k == c) refl
    where
      by_number : (b : Bool) → (k == c) ≡ b → unwrap_or (cond (k == c) (Some wait) (waits k h)) false ≡ waits_for_end k h
      by_number true e =
          let same : k ≡ c = grind (arith, nat_tests) in
          ap (λ b. unwrap_or (cond b (Some wait) (waits k h)) false) e ∙ sym (ap (λ j. waits_for_end j h) same ∙ as_before u (subst (λ j. is_named j u h ≡ true) same n))
      by_number false e = ap (λ b. unwrap_or (cond b (Some wait) (waits k h)) false) e

  -- a cancel is through with a task that it named as it was before
  through_same : (k : ℕ) (u : TaskId) → is_named k u h ≡ true → is_through (Cancel c t wait ∷ h) k u ≡ is_through h k u
  through_same k u n = λ i. bans_are_placed u h && (not (waits_same k u n i) || has_ended u h)

  pub waits_more : waiting_for t (Cancel c t wait ∷ h) ≡ waiting_for t h ++ cond (is_through (Cancel c t wait ∷ h) c t) [] (c ∷ [])
  waits_more =
      ap (λ b. filter (λ k. not (is_through (Cancel c t wait ∷ h) k t)) (cond b (named_by t h ++ c ∷ []) (named_by t h))) itself
      ∙ filter-append (λ k. not (is_through (Cancel c t wait ∷ h) k t)) (named_by t h) (c ∷ [])
      ∙ ap (λ ks. ks ++ filter (λ k. not (is_through (Cancel c t wait ∷ h) k t)) (c ∷ []))
      (filter_same (λ k. not (is_through (Cancel c t wait ∷ h) k t)) (λ k. not (is_through h k t)) (named_by t h) (λ k i. ap not (through_same k t (sym (named_in k t h) ∙ i))))
      ∙ ap (λ ks. waiting_for t h ++ ks) (alone (is_through (Cancel c t wait ∷ h) c t))
    where
      alone : (b : Bool) → cond (not b) (c ∷ []) [] ≡ cond b [] (c ∷ [])
      alone true = refl
      alone false = refl

  waits_elsewhere : (u : TaskId) → same_task t u ≡ false → waiting_for u (Cancel c t wait ∷ h) ≡ waiting_for u h
  waits_elsewhere u differs =
      ap (λ b. filter (λ k. not (is_through (Cancel c t wait ∷ h) k u)) (cond b (named_by u h ++ c ∷ []) (named_by u h))) turned
      ∙ filter_same (λ k. not (is_through (Cancel c t wait ∷ h) k u)) (λ k. not (is_through h k u)) (named_by u h) (λ k i. ap not (through_same k u (sym (named_in k u h) ∙ i)))
    where
      turned : same_task u t ≡ false
      turned = grind (arith, same_tests)

  -- where it waits it has named a task
  pub alike : (u : TaskId) → is_in c (waiting_for u h) ≡ true → waits_for_end c h ≡ wait
  alike u i = as_before u (sym (named_in c u h) ∙ (both (not (is_through h c u)) (is_in c (named_by u h)) (sym (in_filter (λ k. not (is_through h k u)) c (named_by u h)) ∙ i)).1)

  pub others_stay : (u : TaskId) → same_task t u ≡ false → (o : Option Cancellation) → IsEntryOf (waiting_for u h) u h o → IsEntryOf (waiting_for u (Cancel c t wait ∷ h)) u (Cancel c t wait ∷ h) o
  others_stay u differs o has = subst (λ ws. IsEntryOf ws u (Cancel c t wait ∷ h) o) (sym (waits_elsewhere u differs)) (entry_frame (waiting_for u h) u h (Cancel c t wait) o refl (alike u) has)

  of_rows : (o : Option Table) → HasRows h o → HasRows (Cancel c t wait ∷ h) o
  of_rows None i = i
  of_rows (Some table) i = i

  of_bans : (place : ℕ) (o : Option (FinMap task_id_cmp ℕ)) → HasBansAt cluster place h o → HasBansAt cluster place (Cancel c t wait ∷ h) o
  of_bans place None i = i
  of_bans place (Some own) i = i

  -- the other tables say what they said
  pub noted_with : (waiting : TaskId → List ℕ) (tables : List Table) (roots : ℕ → Option TaskId) (bans : List (FinMap task_id_cmp ℕ)) (cores after : List Cancellations) (listings : BTreeSet Listing)
      → Cancelling cluster (λ u. waiting_for u h) h tables roots bans cores listings → ((place : ℕ) → HasCoreAt cluster waiting place (Cancel c t wait ∷ h) (slice_get after place))
      → ((place : ℕ) → HasListingsAt place (Cancel c t wait ∷ h) (slice_get after place))
      → Cancelling cluster waiting (Cancel c t wait ∷ h) tables roots bans after listings
  noted_with waiting tables roots bans cores after listings known cores_are waits_are = record {
    rows_are = λ place. of_rows (slice_get tables place) (known.rows_are place);
    roots_are = known.roots_are;
    bans_are = λ place. of_bans place (slice_get bans place) (known.bans_are place);
    cores_are = cores_are;
    waits_are = waits_are;
    listings_are = known.listings_are;
  }

  -- ---- at how many tasks cancels wait

  same_tasks : (k : ℕ) → filter (λ u. not (is_through (Cancel c t wait ∷ h) k u)) (tasks_named k h) ≡ filter (λ u. not (is_through h k u)) (tasks_named k h)
  same_tasks k = tasks_same (λ u. not (is_through (Cancel c t wait ∷ h) k u)) (λ u. not (is_through h k u)) (tasks_named k h) (λ u i. ap not (through_same k u (sym (task_in k u h) ∙ i)))

  left_own : left_of c (Cancel c t wait ∷ h) ≡ cond (is_through (Cancel c t wait ∷ h) c t) (left_of c h) (left_of c h + 1)
  left_own =
      ap (λ b. length (filter (λ u. not (is_through (Cancel c t wait ∷ h) c u)) (cond b (tasks_named c h ++ t ∷ []) (tasks_named c h)))) (eq-eqb c c refl)
      ∙ ap length (filter-append (λ u. not (is_through (Cancel c t wait ∷ h) c u)) (tasks_named c h) (t ∷ []) ∙ ap (λ us. us ++ filter (λ u. not (is_through (Cancel c t wait ∷ h) c u)) (t ∷ [])) (same_tasks c))
      ∙ length-append (filter (λ u. not (is_through h c u)) (tasks_named c h)) (filter (λ u. not (is_through (Cancel c t wait ∷ h) c u)) (t ∷ []))
      ∙ alone (is_through (Cancel c t wait ∷ h) c t)
    where
      alone : (b : Bool) → left_of c h + length (cond (not b) (t ∷ []) []) ≡ cond b (left_of c h) (left_of c h + 1)
      alone true = omega arith
      alone false = refl

  left_other : (k : ℕ) → (k == c) ≡ false → left_of k (Cancel c t wait ∷ h) ≡ left_of k h
  left_other k apart = ap (λ b. length (filter (λ u. not (is_through (Cancel c t wait ∷ h) k u)) (cond b (tasks_named k h ++ t ∷ []) (tasks_named k h)))) apart ∙ ap length (same_tasks k)

  left_named : (k : ℕ) → left_of k (Cancel c t wait ∷ h) ≡ cond (c == k) (cond (is_through (Cancel c t wait ∷ h) c t) (left_of k h) (left_of k h + 1)) (left_of k h)
  left_named k = by_number (c == k) refl
    where
      by_number : (b : Bool) → (c == k) ≡ b → left_of k (Cancel c t wait ∷ h) ≡ cond b (cond (is_through (Cancel c t wait ∷ h) c t) (left_of k h) (left_of k h + 1)) (left_of k h)
      by_number true e =
          let same : c ≡ k = grind (arith, nat_tests) in
          subst (λ j. left_of j (Cancel c t wait ∷ h) ≡ cond (is_through (Cancel c t wait ∷ h) c t) (left_of j h) (left_of j h + 1)) same left_own
      by_number false e = left_other k (grind (arith, nat_tests))

  pub counts_after_cancel : (left after : ℕ → ℕ) → HasLeft (Some c) h left → ((k : ℕ) → after k ≡ cond (c == k) (cond (is_through (Cancel c t wait ∷ h) c t) (left k) (left k + 1)) (left k)) → HasLeft (Some c) (Cancel c t wait ∷ h) after
  counts_after_cancel left after has is = record {
    counts = λ k. is k ∙ (λ i. cond (c == k) (cond (is_through (Cancel c t wait ∷ h) c t) (has.counts k i) (has.counts k i + 1)) (has.counts k i)) ∙ sym (left_named k);
    answered = λ k u n. by_number k u n (k == c) refl;
  }
    where
      unanswered : is_answered c h ≡ false
      unanswered = rw (naming.not_placed, naming.not_done) refl

      by_number : (k : ℕ) (u : TaskId) → is_named k u (Cancel c t wait ∷ h) ≡ true → (b : Bool) → (k == c) ≡ b → is_answered k h ≡ (not (k == c) && (left_of k (Cancel c t wait ∷ h) == 0))
      by_number k u n true e = let same : k ≡ c = grind (arith, nat_tests) in ap (λ j. is_answered j h) same ∙ unanswered ∙ (rw e refl)
      by_number k u n false e =
          let before : is_named k u h ≡ true = grind (arith, same_tests, n, e) in
          has.answered k u before ∙ ap (λ m. not (k == c) && (m == 0)) (sym (left_other k e))

  -- ---- where the task has no mark

  module _ (unmarked : mark_of t h ≡ None) where
    pub holds : is_through (Cancel c t wait ∷ h) c t ≡ false
    holds = rw unmarked refl

    -- the cancel alone waits for the task, where nobody did
    pub waits_alone : waiting_for t h ≡ [] → waiting_for t (Cancel c t wait ∷ h) ≡ c ∷ []
    waits_alone none = waits_more ∙ (λ i. none i ++ cond (holds i) [] (c ∷ []))

    own_entry : (o : Option Cancellation) → o ≡ None → IsEntryOf (waiting_but t (Cancel c t wait ∷ h) t) t (Cancel c t wait ∷ h) o
    own_entry o none = rw none (not_under_way, ap (λ b. cond b [] (waiting_for t (Cancel c t wait ∷ h))) itself)
      where
        not_under_way : is_under_way t (Cancel c t wait ∷ h) ≡ false
        not_under_way = rw unmarked refl

    other_entry : (u : TaskId) → same_task t u ≡ false → (o : Option Cancellation) → IsEntryOf (waiting_for u h) u h o → IsEntryOf (waiting_but t (Cancel c t wait ∷ h) u) u (Cancel c t wait ∷ h) o
    other_entry u differs o i = subst (λ ws. IsEntryOf ws u (Cancel c t wait ∷ h) o) (sym (ap (λ b. cond b [] (waiting_for u (Cancel c t wait ∷ h))) differs)) (others_stay u differs o i)

    pub cancels_after_cancel : (tables : List Table) (roots : ℕ → Option TaskId) (bans : List (FinMap task_id_cmp ℕ)) (cores : List Cancellations) (listings : BTreeSet Listing)
        → Cancelling cluster (λ u. waiting_for u h) h tables roots bans cores listings → Cancelling cluster (waiting_but t (Cancel c t wait ∷ h)) (Cancel c t wait ∷ h) tables roots bans cores listings
    cancels_after_cancel tables roots bans cores listings known =
        noted_with (waiting_but t (Cancel c t wait ∷ h)) tables roots bans cores cores listings known
        (λ place. cores_kept cluster (λ u. waiting_for u h) (waiting_but t (Cancel c t wait ∷ h)) h (Cancel c t wait ∷ h) (λ u o i. by_task u o i (same_task_tells t u)) place (slice_get cores place) (known.cores_are place))
        (λ place. waits_stay place h (Cancel c t wait ∷ h) (slice_get cores place) (quiet_listings (Cancel c t wait) h refl) (known.waits_are place))
      where
        by_task : (u : TaskId) (o : Option Cancellation) → IsEntryOf (waiting_for u h) u h o → ((same_task t u ≡ true) × (t ≡ u)) ⊎ ((same_task t u ≡ false) × (t ≢ u)) → IsEntryOf (waiting_but t (Cancel c t wait ∷ h) u) u (Cancel c t wait ∷ h) o
        by_task u o i (inl (is_one, same)) =
            let none = no_entry u h (waiting_for u h) o (ap (λ x. mark_of x h) (sym same) ∙ unmarked) i in
            subst (λ x. IsEntryOf (waiting_but t (Cancel c t wait ∷ h) x) x (Cancel c t wait ∷ h) o) same (own_entry o none.0)
        by_task u o i (inr (differs, apart)) = other_entry u differs o i

  -- ---- the cancel goes on naming

  names_on : IsNaming c wait (Cancel c t wait ∷ h)
  names_on = record {
    current = naming.current;
    one_kind = λ other e. let told : Some wait ≡ Some other = sym (ap (λ b. cond b (Some wait) (waits c h)) (eq-eqb c c refl)) ∙ e in cc;
    at_once = λ none. absurd (let told = ap (λ b. cond b (Some wait) (waits c h)) (eq-eqb c c refl) in cc);
    not_placed = naming.not_placed;
    not_done = naming.not_done;
    not_missing = naming.not_missing;
  }

  names_on_marked : IsNaming c wait (Mark t c ∷ Cancel c t wait ∷ h)
  names_on_marked = record {
    current = names_on.current;
    one_kind = names_on.one_kind;
    at_once = λ none. absurd (let told = ap (λ b. cond b (Some wait) (waits c h)) (eq-eqb c c refl) in cc);
    not_placed = names_on.not_placed;
    not_done = names_on.not_done;
    not_missing = names_on.not_missing;
  }

  pub names_on_either : IsNaming c wait (with_cancel c t wait h)
  names_on_either = by_mark (is_some (mark_of t h))
    where
      by_mark : (b : Bool) → IsNaming c wait (if b then Cancel c t wait ∷ h else Mark t c ∷ Cancel c t wait ∷ h)
      by_mark true = names_on
      by_mark false = names_on_marked
