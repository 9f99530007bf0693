-- What is kept of each task after an event about one of them.
use Rattle.std.proofs.Common.{◌≡◌, ◌≢◌, ◌⊎◌, Bool, true, false, cond, List, ◌∷◌, Option, Some, None, refl, sym, ap, subst, ◌∙◌, inl, inr, arith}
use Rattle.std.specs.BTreeMap.{is_at}
use Rattle.std.specs.declared.cmp.Ordering.{Ordering}
use Rattle.std.specs.declared.cmp.Ordering.TheVariants.{Less, Equal, Greater}
use Rattle.std.specs.Ordering.{is_eq}
use Rattle.task_ids.specs.declared.task_id.TaskId.{TaskId}
use Rattle.task_ids.specs.declared.cluster.Cluster.{Cluster}
use Rattle.task_ids.specs.declared.corpus.Corpus.{Corpus}
use Rattle.task_ids.specs.TaskIdOrder.{task_id_cmp}
use Rattle.task_ids.proofs.TaskIdKeys.{exact_ids, ids_total}
use Rattle.std.specs.Cmp.{eq_by_cmp_equiv}
use Rattle.task_events.specs.declared.event.Event.{Event}
use Rattle.task_events.specs.Requests.{Scripted}
use Rattle.task_events.specs.Same.{same_task}
use Rattle.task_laws.proofs.Same.{same_task_tells, same_tests}
use Rattle.node_parts.specs.declared.running.Running.{Running}
use Rattle.task_events.specs.Written.{corpus_at}
use Rattle.world_moves.specs.Facts.{Facts, facts_of, about, is_about, is_write}
use Rattle.world_moves.specs.Ties.{IsKept, Runs, progress_from}
use Rattle.world_moves.proofs.FactsAfter.{frame, lines_same}

is_equal : (o : Ordering) → is_eq o ≡ true → o ≡ Equal
is_equal Less e = absurd (cc)
is_equal Equal e = refl
is_equal Greater e = absurd (cc)

-- the order of ids tells ids apart
pub is_at_task : (t q : TaskId) → is_at (task_id_cmp t) q ≡ same_task t q
is_at_task t q = by_case (is_at (task_id_cmp t) q) refl (same_task_tells t q)
  where
    by_case : (b : Bool) → is_at (task_id_cmp t) q ≡ b → ((same_task t q ≡ true) × (t ≡ q)) ⊎ ((same_task t q ≡ false) × (t ≢ q)) → is_at (task_id_cmp t) q ≡ same_task t q
    by_case b e (inl (is_one, same)) = subst (λ x. is_at (task_id_cmp t) x ≡ true) same ((eq_by_cmp_equiv ids_total).refl t) ∙ sym is_one
    by_case true e (inr (differs, apart)) = absurd (apart (exact_ids t q (is_equal (task_id_cmp t q) e)))
    by_case false e (inr (differs, apart)) = e ∙ sym differs

module _ (cluster : Cluster) (corpus : Corpus) (said : Scripted) where
  -- by what is written so far
  abbrev look : List Event → Corpus
  look h = corpus_at corpus said h

  -- what is kept of a task stays what it is where nothing is written
  still_kept : (e : Event) (h : List Event) → is_write e ≡ false → (q : TaskId) (facts : Facts) (o : Option Running) → IsKept cluster look h q facts o → IsKept cluster look (e ∷ h) q facts o
  still_kept e h w q facts None kept = kept
  still_kept e h w q facts (Some r) kept = subst (λ now. Runs cluster now (progress_from cluster look facts) q facts r) (sym (lines_same said corpus e h w)) kept

  -- an event about one task
  pub kept_after : (t : TaskId) (e : Event) (h : List Event) (tasks after : TaskId → Option Running) → about e ≡ Some t → is_write e ≡ false
      → ((q : TaskId) → IsKept cluster look h q (facts_of said q h) (tasks q))
      → IsKept cluster look (e ∷ h) t (facts_of said t (e ∷ h)) (after t)
      → ((q : TaskId) → same_task t q ≡ false → after q ≡ tasks q)
      → (q : TaskId) → IsKept cluster look (e ∷ h) q (facts_of said q (e ∷ h)) (after q)
  kept_after t e h tasks after a w kept here others q = by_case (same_task_tells t q)
    where
      elsewhere : same_task t q ≡ false → t ≢ q → is_about q e ≡ false
      elsewhere differs apart = rw a (grind (arith, same_tests, apart))

      by_case : ((same_task t q ≡ true) × (t ≡ q)) ⊎ ((same_task t q ≡ false) × (t ≢ q)) → IsKept cluster look (e ∷ h) q (facts_of said q (e ∷ h)) (after q)
      by_case (inl (is_one, same)) = subst (λ x. IsKept cluster look (e ∷ h) x (facts_of said x (e ∷ h)) (after x)) same here
      by_case (inr (differs, apart)) = rw (frame said q e h (elsewhere differs apart) w) (rw (others q differs) (still_kept e h w q _ (tasks q) (kept q)))

  -- an event that is about no task
  pub kept_same : (e : Event) (h : List Event) (tasks : TaskId → Option Running) → about e ≡ None → is_write e ≡ false
      → ((q : TaskId) → IsKept cluster look h q (facts_of said q h) (tasks q)) → (q : TaskId) → IsKept cluster look (e ∷ h) q (facts_of said q (e ∷ h)) (tasks q)
  kept_same e h tasks a w kept q = rw (frame said q e h (rw a refl) w) (still_kept e h w q _ (tasks q) (kept q))

-- a map that was changed at one id: what it has there, and that it has the same everywhere else
pub at_changed : (t : TaskId) (o : Option Running) (tasks after : TaskId → Option Running) → ((q : TaskId) → after q ≡ cond (is_at (task_id_cmp t) q) o (tasks q)) → after t ≡ o
at_changed t o tasks after changed = changed t ∙ ap (λ b. cond b o (tasks t)) ((eq_by_cmp_equiv ids_total).refl t)

pub off_changed : (t : TaskId) (o : Option Running) (tasks after : TaskId → Option Running) → ((q : TaskId) → after q ≡ cond (is_at (task_id_cmp t) q) o (tasks q)) → (q : TaskId) → same_task t q ≡ false → after q ≡ tasks q
off_changed t o tasks after changed q differs = changed q ∙ ap (λ b. cond b o (tasks q)) (is_at_task t q ∙ differs)

-- a set that was changed at one id, and has what is wanted there
pub known_at : (t : TaskId) (b : Bool) (old new want : TaskId → Bool) → ((q : TaskId) → new q ≡ cond (is_at (task_id_cmp t) q) b (old q)) → want t ≡ b
    → (q : TaskId) → new q ≡ cond (same_task t q) (want q) (old q)
known_at t b old new want changed here q = by_case (same_task_tells t q)
  where
    by_case : ((same_task t q ≡ true) × (t ≡ q)) ⊎ ((same_task t q ≡ false) × (t ≢ q)) → new q ≡ cond (same_task t q) (want q) (old q)
    by_case (inl (is_one, same)) = changed q ∙ ap (λ x. cond x b (old q)) (is_at_task t q ∙ is_one) ∙ sym here ∙ ap want same ∙ sym (ap (λ x. cond x (want q) (old q)) is_one)
    by_case (inr (differs, apart)) = changed q ∙ ap (λ x. cond x b (old q)) (is_at_task t q ∙ differs) ∙ sym (ap (λ x. cond x (want q) (old q)) differs)
