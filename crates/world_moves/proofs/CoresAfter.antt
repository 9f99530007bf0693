-- The cores after the cancellation of one task has gone on.
use Rattle.std.proofs.Common.{◌≡◌, ◌≢◌, ◌⊎◌, ◌<◌, ◌≤◌, ◌-◌, ◌+◌, ℕ, Bool, true, false, cond, List, [], ◌∷◌, length, Option, Some, None, refl, sym, ap, subst, ◌∙◌, inl, inr, arith}
use Rattle.std.specs.Prelude.{slice_get, slice_set, is_some}
use Rattle.std.specs.FinMap.{FinMap, get, get-insert, get-remove}
use Rattle.std.proofs.lemmas.Option.{slice_get_within}
use Rattle.task_ids.specs.declared.task_id.TaskId.{TaskId}
use Rattle.task_ids.specs.declared.cluster.Cluster.{Cluster}
use Rattle.task_ids.specs.TaskIdOrder.{task_id_cmp}
use Rattle.task_ids.proofs.TaskIdKeys.{ids_total}
use Rattle.cancel_core.specs.Cancellation.{Cancellation}
use Rattle.cancel_core.specs.Cancellations.{Cancellations, changed}
use Rattle.cancel_core.specs.Listings.{without_wait, left_by}
use Rattle.task_events.specs.declared.event.Event.{Event}
use Rattle.task_events.specs.declared.event.Event.TheVariants.{Mark}
use Rattle.task_events.specs.Same.{same_task}
use Rattle.task_events.specs.Bans.{mark_of}
use Rattle.task_events.specs.Lawful.{Lawful}
use Rattle.task_laws.proofs.Reach.{reach_facts}
use Rattle.task_laws.proofs.Same.{same_task_tells, same_tests}
use Rattle.world_moves.specs.Cancelling.{HasCoreAt, IsEntryOf, IsCancellationOf, is_under_way}
use Rattle.world_moves.proofs.AtPlace.{at_node, set_at}
use Rattle.world_moves.proofs.KeptTasks.{is_at_task}

-- a marked task stands on a node of the cluster
pub marked_in : (cluster : Cluster) (t : TaskId) (h : List Event) → Lawful cluster h → is_some (mark_of t h) ≡ true → t.node ≤ cluster.nodes
marked_in cluster t [] l m = absurd (cc)
marked_in cluster t (Mark u c ∷ h) l m = by_task (same_task_tells t u) (marked_in cluster t h l.1)
  where
    by_task : ((same_task t u ≡ true) × (t ≡ u)) ⊎ ((same_task t u ≡ false) × (t ≢ u)) → (is_some (mark_of t h) ≡ true → t.node ≤ cluster.nodes) → t.node ≤ cluster.nodes
    by_task (inl (is_one, same)) before = subst (λ (x : TaskId). x.node ≤ cluster.nodes) (sym same) ((reach_facts cluster h l.1).live_in u l.0.live)
    by_task (inr (differs, apart)) before = before (rw differs at m)
marked_in cluster t (_ ∷ h) l m = marked_in cluster t h l.1 m

-- what a core has of a task once that of one task was changed
changed_at : (entries : FinMap task_id_cmp Cancellation) (t u : TaskId) (x : Option Cancellation) → get (changed entries t x) u ≡ cond (same_task u t) x (get entries u)
changed_at entries t u None = get-remove ids_total entries t u ∙ ap (λ b. cond b None (get entries u)) (is_at_task u t)
changed_at entries t u (Some c) = get-insert ids_total entries t c u ∙ ap (λ b. cond b (Some c) (get entries u)) (is_at_task u t)

-- a core's entries stay where a task leaves its listing
pub entries_left : (core : Cancellations) (t : TaskId) (stopped : Bool) → (left_by core t stopped).entries ≡ core.entries
entries_left core t false = refl
entries_left core t true = by_wait (get core.waits t)
  where
    by_wait : (o : Option TaskId) → (without_wait core t o).entries ≡ core.entries
    by_wait None = refl
    by_wait (Some p) = refl

module _ (cluster : Cluster) (waiting : TaskId → List ℕ) (h : List Event) (cores : List Cancellations) (are : (place : ℕ) → HasCoreAt cluster waiting place h (slice_get cores place)) (t : TaskId) (high : t.node ≤ cluster.nodes) where
  low : 1 ≤ t.node
  low = t.node_in_range.0

  -- the core of the task's node
  pub core_on : (core : Cancellations) × (slice_get cores (t.node - 1) ≡ Some core)
  core_on = at_node cores cluster.nodes t.node (λ place e. rw e at (are place)) low high

  pub has_core : t.node - 1 < length cores
  has_core = slice_get_within cores (t.node - 1) core_on.0 core_on.1

  place_is : t.node ≡ (t.node - 1) + 1
  place_is = let l = low in omega arith

  module _ (core : Cancellations) (here : slice_get cores (t.node - 1) ≡ Some core) where
    pub knows : IsEntryOf (waiting t) t h (get core.entries t)
    knows = (rw here at (are (t.node - 1))) t place_is

    -- it knows a cancellation that is under way
    pub its_entry : is_under_way t h ≡ true → (c : Cancellation) × (get core.entries t ≡ Some c) × IsCancellationOf (waiting t) t h c
    its_entry going = by_entry (get core.entries t) refl knows
      where
        by_entry : (o : Option Cancellation) → get core.entries t ≡ o → IsEntryOf (waiting t) t h o → (c : Cancellation) × (get core.entries t ≡ Some c) × IsCancellationOf (waiting t) t h c
        by_entry None e has = absurd (let gone = has.0 in cc)
        by_entry (Some c) e has = (c, e, has.1)

    -- the task's own cancellation has gone on with an event, and the others stay
    pub cores_after : (after : Cancellations) (later : TaskId → List ℕ) (past : List Event) (x : Option Cancellation) → after.entries ≡ changed core.entries t x → IsEntryOf (later t) t past x
        → ((u : TaskId) → same_task t u ≡ false → (o : Option Cancellation) → IsEntryOf (waiting u) u h o → IsEntryOf (later u) u past o)
        → (place : ℕ) → HasCoreAt cluster later place past (slice_get (slice_set cores (t.node - 1) after) place)
    cores_after after later past x entries this others =
        set_at (λ place o. HasCoreAt cluster waiting place h o) (λ place o. HasCoreAt cluster later place past o) cores (t.node - 1) core after here are there (λ place apart. elsewhere place apart (slice_get cores place))
      where
        at_task : (u : TaskId) → u.node ≡ (t.node - 1) + 1 → ((same_task t u ≡ true) × (t ≡ u)) ⊎ ((same_task t u ≡ false) × (t ≢ u)) → IsEntryOf (later u) u past (get (changed core.entries t x) u)
        at_task u on (inl (is_one, same)) =
            let turned : same_task u t ≡ true = grind (arith, same_tests) in
            subst (IsEntryOf (later u) u past) (sym (changed_at core.entries t u x ∙ ap (λ b. cond b x (get core.entries u)) turned)) (subst (λ z. IsEntryOf (later z) z past x) same this)
        at_task u on (inr (differs, apart)) =
            let turned : same_task u t ≡ false = grind (arith, same_tests) in
            subst (IsEntryOf (later u) u past) (sym (changed_at core.entries t u x ∙ ap (λ b. cond b x (get core.entries u)) turned)) (others u differs (get core.entries u) ((rw here at (are (t.node - 1))) u on))

        there : HasCoreAt cluster later (t.node - 1) past (Some after)
        there u on = subst (λ known. IsEntryOf (later u) u past (get known u)) (sym entries) (at_task u on (same_task_tells t u))

        elsewhere : (place : ℕ) → place ≢ t.node - 1 → (o : Option Cancellations) → HasCoreAt cluster waiting place h o → HasCoreAt cluster later place past o
        elsewhere place apart None has = has
        elsewhere place apart (Some k) has = λ u on.
            let other : t.node ≢ u.node = λ e. apart (omega arith) in
            others u (grind (arith, same_tests)) (get k.entries u) (has u on)
