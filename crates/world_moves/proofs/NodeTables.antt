-- What the tables of a node know of a task without a mark, and where they are found.
use Rattle.std.proofs.Common.{◌≡◌, ◌≢◌, ◌⊎◌, ◌-◌, ◌+◌, ◌≤◌, ℕ, true, false, List, [], Option, Some, None, refl, sym, ap, subst, ◌∙◌, inl, inr, arith}
use Rattle.std.specs.Prelude.{slice_get}
use Rattle.std.specs.BTreeSet.{BTreeSet}
use Rattle.std.specs.FinMap.{FinMap, get}
use Rattle.task_ids.specs.declared.task_id.TaskId.{TaskId}
use Rattle.task_ids.specs.declared.cluster.Cluster.{Cluster}
use Rattle.task_ids.specs.TaskIdOrder.{task_id_cmp}
use Rattle.task_table.specs.Table.{Table}
use Rattle.cancel_core.specs.Cancellation.{Cancellation}
use Rattle.cancel_core.specs.Cancellations.{Cancellations, has_entry}
use Rattle.task_events.specs.declared.event.Event.{Event}
use Rattle.task_events.specs.Same.{same_task}
use Rattle.task_events.specs.Bans.{mark_of}
use Rattle.task_laws.proofs.Same.{same_task_tells}
use Rattle.node_parts.specs.declared.listing.Listing.{Listing}
use Rattle.world_moves.specs.Cancels.{waiting_for}
use Rattle.world_moves.specs.Cancelling.{Cancelling, HasCoreAt, IsEntryOf, waiting_but}
use Rattle.world_moves.proofs.AtPlace.{at_node}
use Rattle.world_moves.proofs.CancelFrame.{cores_kept}

-- nobody waits for a task without a mark, and its core has no entry of it
pub no_entry : (t : TaskId) (h : List Event) (waiting : List ℕ) (o : Option Cancellation) → mark_of t h ≡ None → IsEntryOf waiting t h o → (o ≡ None) × (waiting ≡ [])
no_entry t h waiting None e i = (refl, i.1)
no_entry t h waiting (Some entry) e i = absurd (let under_way = rw e at i.0 in cc)

module _ (cluster : Cluster) (waiting : TaskId → List ℕ) (h : List Event) (tables : List Table) (roots : ℕ → Option TaskId) (bans : List (FinMap task_id_cmp ℕ)) (cores : List Cancellations) (listings : BTreeSet Listing)
    (known : Cancelling cluster waiting h tables roots bans cores listings) where
  -- each node has a core
  pub core_at : (n : ℕ) → 1 ≤ n → n ≤ cluster.nodes → (core : Cancellations) × (slice_get cores (n - 1) ≡ Some core)
  core_at n low high = at_node cores cluster.nodes n (λ place none. subst (HasCoreAt cluster waiting place h) none (known.cores_are place)) low high

  -- what the core of a task's node knows of it
  pub entry_known : (t : TaskId) (core : Cancellations) → slice_get cores (t.node - 1) ≡ Some core → IsEntryOf (waiting t) t h (get core.entries t)
  entry_known t core here =
      let low = t.node_in_range.0 in
      let node : t.node ≡ (t.node - 1) + 1 = omega arith in
      (subst (HasCoreAt cluster waiting (t.node - 1) h) here (known.cores_are (t.node - 1))) t node

  pub fresh : (t : TaskId) (core : Cancellations) → mark_of t h ≡ None → slice_get cores (t.node - 1) ≡ Some core → has_entry core t ≡ false
  fresh t core unmarked here = let none = (no_entry t h (waiting t) _ unmarked (entry_known t core here)).0 in rw none refl

  pub nobody_waits : (t : TaskId) → mark_of t h ≡ None → t.node ≤ cluster.nodes → waiting t ≡ []
  nobody_waits t unmarked high = let own = core_at t.node t.node_in_range.0 high in (no_entry t h (waiting t) _ unmarked (entry_known t own.0 own.1)).1

-- equal tables fit an equal past
pub same_cancels : (cluster : Cluster) (h past : List Event) (tables others : List Table) (roots : ℕ → Option TaskId) (bans : List (FinMap task_id_cmp ℕ)) (cores after : List Cancellations) (listings : BTreeSet Listing)
    → h ≡ past → tables ≡ others → cores ≡ after → Cancelling cluster (λ u. waiting_for u past) past others roots bans after listings → Cancelling cluster (λ u. waiting_for u h) h tables roots bans cores listings
same_cancels cluster h past tables others roots bans cores after listings e f g known = rw (e, f, g) known

-- where a task without a mark is left out nobody is missed
pub left_out : (cluster : Cluster) (t : TaskId) (h : List Event) (tables : List Table) (roots : ℕ → Option TaskId) (bans : List (FinMap task_id_cmp ℕ)) (cores : List Cancellations) (listings : BTreeSet Listing)
    → mark_of t h ≡ None → t.node ≤ cluster.nodes → Cancelling cluster (λ u. waiting_for u h) h tables roots bans cores listings → Cancelling cluster (waiting_but t h) h tables roots bans cores listings
left_out cluster t h tables roots bans cores listings unmarked high known = record {
  rows_are = known.rows_are;
  roots_are = known.roots_are;
  bans_are = known.bans_are;
  cores_are = λ place. cores_kept cluster (λ u. waiting_for u h) (waiting_but t h) h h (λ u o i. subst (λ ws. IsEntryOf ws u h o) (same u) i) place (slice_get cores place) (known.cores_are place);
  waits_are = known.waits_are;
  listings_are = known.listings_are;
}
  where
    none : waiting_for t h ≡ []
    none = nobody_waits cluster (λ u. waiting_for u h) h tables roots bans cores listings known t unmarked high

    same : (u : TaskId) → waiting_for u h ≡ waiting_but t h u
    same u = by_task (same_task_tells t u)
      where
        by_task : ((same_task t u ≡ true) × (t ≡ u)) ⊎ ((same_task t u ≡ false) × (t ≢ u)) → waiting_for u h ≡ waiting_but t h u
        by_task (inl (is_one, one)) = rw is_one (ap (λ x. waiting_for x h) (sym one) ∙ none)
        by_task (inr (differs, apart)) = rw differs refl
