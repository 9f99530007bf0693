-- The tables of cancellations fit the past after a task has left.
use Rattle.std.proofs.Common.{◌≡◌, ◌⊎◌, ◌≢◌, ℕ, ◌-◌, ◌+◌, ◌≤◌, true, false, cond, not, List, [], ◌∷◌, ◌++◌, filter, map, get_or, Option, Some, None, refl, sym, ap, subst, ◌∙◌, inl, inr, arith}
use Rattle.std.specs.Prelude.{◌||◌, slice_get, slice_set}
use Rattle.std.specs.BTreeSet.{BTreeSet}
use Rattle.std.specs.FinMap.{FinMap, get}
use Rattle.std.proofs.lemmas.List.Elements.{All-filter}
use Rattle.task_ids.specs.declared.task_id.TaskId.{TaskId}
use Rattle.task_ids.specs.declared.task_info.TaskInfo.{TaskInfo}
use Rattle.task_ids.specs.declared.cluster.Cluster.{Cluster}
use Rattle.task_ids.specs.TaskIdOrder.{task_id_cmp}
use Rattle.child_track.specs.Token.{ReceiptParts}
use Rattle.task_table.specs.Table.{Table, without_task}
use Rattle.task_table.specs.Rows.{has_number}
use Rattle.cancel_core.specs.Cancellation.{Cancellation, with_receipt, rest_of}
use Rattle.cancel_core.specs.Cancellations.{Cancellations, with_entry}
use Rattle.cancel_core.specs.Listings.{left_by}
use Rattle.task_events.specs.declared.event.Event.{Event}
use Rattle.task_events.specs.declared.event.Event.TheVariants.{Refuse, End}
use Rattle.task_events.specs.Same.{same_task}
use Rattle.task_events.specs.Bans.{mark_of, bans_are_placed, is_stopped}
use Rattle.task_events.specs.Tasks.{has_ended, is_live, parent_of}
use Rattle.task_events.specs.Messages.{ack_over}
use Rattle.task_events.specs.Lawful.{Lawful}
use Rattle.task_laws.proofs.Dues.{unmarked_end, unmarked_refuse}
use Rattle.task_laws.proofs.Same.{same_task_tells, same_tests}
use Rattle.task_laws.proofs.Stops.{stop_facts}
use Rattle.node_parts.specs.declared.listing.Listing.{Listing}
use Rattle.world_moves.specs.Acts.{answers_of}
use Rattle.world_moves.specs.Cancels.{waiting_for, is_through, answer_to, with_answers}
use Rattle.world_moves.specs.Left.{HasLeft}
use Rattle.world_moves.specs.Cancelling.{Cancelling, IsRowOf, HasRows, HasCoreAt, HasListingsAt, IsEntryOf, IsCancellationOf}
use Rattle.world_moves.proofs.AtOneTask.{at_end, at_refusal}
use Rattle.world_moves.proofs.CountsAfter.{IsAt, let_go, still_waiting, others_wait, answers_then}
use Rattle.world_moves.proofs.NamedCancels.{is_in}
use Rattle.world_moves.proofs.QuietCounts.{counts_at}
use Rattle.world_moves.proofs.AtPlace.{at_node, set_at}
use Rattle.world_moves.proofs.CancelFrame.{entry_frame}
use Rattle.world_moves.proofs.CoresAfter.{cores_after, entries_left}
use Rattle.world_moves.proofs.DescriptionsAfter.{starts_or_ticks}
use Rattle.world_moves.proofs.DueActs.{due_left}
use Rattle.world_moves.proofs.OneStops.{StopsAtMost, ListingsStay, listings_stay}
use Rattle.world_moves.proofs.TasksAfterLeave.{itself}
use Rattle.world_moves.proofs.WaitsAfter.{waits_after, waits_stay}
use Rattle.world_moves.proofs.WhoStops.{refusal_stops, end_stops, none_there}

-- the task leaves with the event
abbrev pub Leaves : TaskId → Event → Type 0
Leaves t (Refuse u c) = u ≡ t
Leaves t (End u reply) = u ≡ t
Leaves t _ = ⊥

module _ (t : TaskId) (h : List Event) where
  turned_off : (u w : TaskId) → u ≡ t → same_task t w ≡ false → same_task w u ≡ false
  turned_off u w l differs = rw l (grind (arith, same_tests, differs))

  pub ended_now : (e : Event) → Leaves t e → has_ended t (e ∷ h) ≡ true
  ended_now (Refuse u c) l = rw l (rw (itself t) refl)
  ended_now (End u r) l = rw l (rw (itself t) refl)
  ended_now _ l = absurd l

  pub stopped_now : (e : Event) → Leaves t e → is_stopped t (e ∷ h) ≡ true
  stopped_now e l = ap (λ b. b || bans_are_placed t (e ∷ h)) (ended_now e l)

  pub starts_none : (e : Event) → Leaves t e → starts_or_ticks e ≡ false
  starts_none (Refuse u c) l = refl
  starts_none (End u r) l = refl
  starts_none _ l = absurd l

  row_stays : (e : Event) → Leaves t e → (row : TaskInfo) → IsRowOf h row → IsRowOf (e ∷ h) row
  row_stays (Refuse u c) l row i = i
  row_stays (End u r) l row i = i
  row_stays _ l row i = absurd l

  pub mark_stays : (e : Event) → Leaves t e → (w : TaskId) → mark_of w (e ∷ h) ≡ mark_of w h
  mark_stays (Refuse u c) l w = refl
  mark_stays (End u r) l w = refl
  mark_stays _ l w = absurd l

  -- it lets cancels go on at the task alone
  pub leaves_at : (e : Event) → Leaves t e → IsAt t e h
  leaves_at (Refuse u c) l = subst (λ x. IsAt t (Refuse x c) h) (sym l) (at_refusal t c h)
  leaves_at (End u r) l = subst (λ x. IsAt t (End x r) h) (sym l) (at_end t r h)
  leaves_at _ l = absurd l

  -- the entry of another task
  entry_stays : (e : Event) → Leaves t e → (waiting : List ℕ) (w : TaskId) (o : Option Cancellation) → same_task t w ≡ false → IsEntryOf waiting w h o → IsEntryOf waiting w (e ∷ h) o
  entry_stays (Refuse u c) l waiting w o differs i = entry_frame waiting w h (Refuse u c) o (turned_off u w l differs) tt i
  entry_stays (End u r) l waiting w o differs i = entry_frame waiting w h (End u r) o (turned_off u w l differs) tt i
  entry_stays _ l waiting w o differs i = absurd l

  -- that of an unmarked task, which has none
  entry_unmarked : (e : Event) → Leaves t e → mark_of t h ≡ None → (waiting : List ℕ) (o : Option Cancellation) → IsEntryOf waiting t h o → IsEntryOf waiting t (e ∷ h) o
  entry_unmarked e l none waiting None i = (rw (mark_stays e l t ∙ none) refl, i.1)
  entry_unmarked e l none waiting (Some x) i = absurd (let way = rw none at i.0 in cc)

  pub nobody_waits : mark_of t h ≡ None → (waiting : List ℕ) (o : Option Cancellation) → IsEntryOf waiting t h o → waiting ≡ []
  nobody_waits none waiting None i = i.1
  nobody_waits none waiting (Some x) i = absurd (let way = rw none at i.0 in cc)

  -- that of the task itself, with its receipt
  pub known_ended : (e : Event) → Leaves t e → (x : Cancellation) (receipt : ReceiptParts) → IsCancellationOf (waiting_for t h) t h x → IsCancellationOf (waiting_for t h) t (e ∷ h) (with_receipt x receipt)
  known_ended (Refuse u c) l x receipt i = (i.0, i.1, i.2, i.3, sym (ended_now (Refuse u c) l))
  known_ended (End u r) l x receipt i = (i.0, i.1, i.2, i.3, sym (ended_now (End u r) l))
  known_ended _ l x receipt i = absurd l

  -- ---- all tables

  left_noted : (e : Event) → Leaves t e → (cluster : Cluster) (waiting new : TaskId → List ℕ) (tables after : List Table) (roots : ℕ → Option TaskId) (bans : List (FinMap task_id_cmp ℕ)) (cores known : List Cancellations) (listings : BTreeSet Listing)
      → Cancelling cluster waiting h tables roots bans cores listings → ((place : ℕ) → HasRows (e ∷ h) (slice_get after place)) → ((place : ℕ) → HasCoreAt cluster new place (e ∷ h) (slice_get known place)) → ((place : ℕ) → HasListingsAt place (e ∷ h) (slice_get known place))
      → Cancelling cluster new (e ∷ h) after roots bans known listings
  left_noted (Refuse u k) l cluster waiting new tables after roots bans cores known listings c rows entries waits =
      record { rows_are = rows; roots_are = c.roots_are; bans_are = c.bans_are; cores_are = entries; waits_are = waits; listings_are = c.listings_are }
  left_noted (End u r) l cluster waiting new tables after roots bans cores known listings c rows entries waits =
      record { rows_are = rows; roots_are = c.roots_are; bans_are = c.bans_are; cores_are = entries; waits_are = waits; listings_are = c.listings_are }
  left_noted _ l cluster waiting new tables after roots bans cores known listings c rows entries waits = absurd l

  rows_at : (e : Event) → Leaves t e → (o : Option Table) → HasRows h o → HasRows (e ∷ h) o
  rows_at e l None i = tt
  rows_at e l (Some table) i = λ k row low. row_stays e l (get_or table.live k row) (i k row low)

  rows_left : (e : Event) → Leaves t e → (tables : List Table) (table : Table) → slice_get tables (t.node - 1) ≡ Some table → ((place : ℕ) → HasRows h (slice_get tables place))
      → (place : ℕ) → HasRows (e ∷ h) (slice_get (slice_set tables (t.node - 1) (without_task table t.number)) place)
  rows_left e l tables table here rows =
      set_at (λ place o. HasRows h o) (λ place o. HasRows (e ∷ h) o) tables (t.node - 1) table (without_task table t.number) here rows
      (All-filter (λ row. not (has_number t.number row)) (IsRowOf (e ∷ h)) table.live (rows_at e l (Some table) (subst (λ o. HasRows h o) here (rows (t.node - 1)))))
      (λ place apart i. rows_at e l (slice_get tables place) i)

  -- where nobody waits at it, nobody does then
  nobody_then : (e : Event) → Leaves t e → (cluster : Cluster) → Lawful cluster h → mark_of t h ≡ None → waiting_for t h ≡ [] → waiting_for t (e ∷ h) ≡ []
  nobody_then e l cluster lawful none nobody = sym (still_waiting cluster t e h lawful (leaves_at e l)) ∙ ap (filter (λ c. not (is_through (e ∷ h) c t))) nobody

  -- of the listed children the task stops at most
  pub leave_stops : (e : Event) → Leaves t e → (cluster : Cluster) → Lawful cluster (e ∷ h) → StopsAtMost t h (e ∷ h)
  leave_stops (Refuse u c) l cluster lawful = subst (λ x. StopsAtMost x h (Refuse u c ∷ h)) l (refusal_stops cluster u h c lawful.0)
  leave_stops (End u r) l cluster lawful = subst (λ x. StopsAtMost x h (End u r ∷ h)) l (end_stops cluster u h r lawful.0)
  leave_stops _ l cluster lawful = absurd l

  -- ---- where the task is not marked

  -- it is in no list
  pub unmarked_leaves : (e : Event) → Leaves t e → (cluster : Cluster) → Lawful cluster (e ∷ h) → is_live t h ≡ true → mark_of t h ≡ None → ListingsStay h (e ∷ h)
  unmarked_leaves e l cluster lawful live none =
      let facts = stop_facts cluster h lawful.1 in
      listings_stay t h (e ∷ h) facts (leave_stops e l cluster lawful) (none_there cluster t h facts live none (e ∷ h))

  cores_unmarked : (e : Event) → Leaves t e → mark_of t h ≡ None → (cluster : Cluster) → Lawful cluster h → (place : ℕ) (o : Option Cancellations) → HasCoreAt cluster (λ u. waiting_for u h) place h o → HasCoreAt cluster (λ u. waiting_for u (e ∷ h)) place (e ∷ h) o
  cores_unmarked e l none cluster lawful place None i = i
  cores_unmarked e l none cluster lawful place (Some core) i = λ w there. by_task w (i w there) (same_task_tells t w)
    where
      own : IsEntryOf (waiting_for t h) t h (get core.entries t) → IsEntryOf (waiting_for t (e ∷ h)) t (e ∷ h) (get core.entries t)
      own entry =
          let nobody = nobody_waits none (waiting_for t h) (get core.entries t) entry in
          subst (λ ks. IsEntryOf ks t (e ∷ h) (get core.entries t)) (nobody ∙ sym (nobody_then e l cluster lawful none nobody)) (entry_unmarked e l none (waiting_for t h) (get core.entries t) entry)

      by_task : (w : TaskId) → IsEntryOf (waiting_for w h) w h (get core.entries w) → ((same_task t w ≡ true) × (t ≡ w)) ⊎ ((same_task t w ≡ false) × (t ≢ w)) → IsEntryOf (waiting_for w (e ∷ h)) w (e ∷ h) (get core.entries w)
      by_task w entry (inl (is_one, same)) = subst (λ u. IsEntryOf (waiting_for u h) u h (get core.entries u) → IsEntryOf (waiting_for u (e ∷ h)) u (e ∷ h) (get core.entries u)) same own entry
      by_task w entry (inr (differs, apart)) = rw (others_wait cluster t e h lawful (leaves_at e l) w differs) (entry_stays e l (waiting_for w h) w (get core.entries w) differs entry)

  -- and so no ban falls due to be acknowledged
  pub none_acked : (e : Event) → Leaves t e → (cluster : Cluster) → Lawful cluster (e ∷ h) → mark_of t h ≡ None → ack_over (parent_of t h) t.node h (e ∷ h) ≡ []
  none_acked (Refuse u c) l cluster lawful none = subst (λ x. mark_of x h ≡ None → ack_over (parent_of x h) x.node h (Refuse u c ∷ h) ≡ []) l (unmarked_refuse cluster u c h lawful) none
  none_acked (End u r) l cluster lawful none = subst (λ x. mark_of x h ≡ None → ack_over (parent_of x h) x.node h (End u r ∷ h) ≡ []) l (unmarked_end cluster u r h lawful) none
  none_acked _ l cluster lawful none = absurd l

  pub noted_unmarked : (e : Event) → Leaves t e → mark_of t h ≡ None → (cluster : Cluster) → Lawful cluster (e ∷ h) → is_live t h ≡ true → (tables : List Table) (roots : ℕ → Option TaskId) (bans : List (FinMap task_id_cmp ℕ)) (cores : List Cancellations) (listings : BTreeSet Listing) (table : Table)
      → slice_get tables (t.node - 1) ≡ Some table → Cancelling cluster (λ u. waiting_for u h) h tables roots bans cores listings
      → Cancelling cluster (λ u. waiting_for u (e ∷ h)) (e ∷ h) (slice_set tables (t.node - 1) (without_task table t.number)) roots bans cores listings
  noted_unmarked e l none cluster lawful live tables roots bans cores listings table here c =
      left_noted e l cluster _ _ tables _ roots bans cores cores listings c (rows_left e l tables table here c.rows_are)
      (λ place. cores_unmarked e l none cluster lawful.1 place (slice_get cores place) (c.cores_are place))
      (λ place. waits_stay place h (e ∷ h) (slice_get cores place) (unmarked_leaves e l cluster lawful live none) (c.waits_are place))

  -- ---- the core of its node

  pub entry_there : (cluster : Cluster) (tables : List Table) (roots : ℕ → Option TaskId) (bans : List (FinMap task_id_cmp ℕ)) (cores : List Cancellations) (listings : BTreeSet Listing) (core : Cancellations) → slice_get cores (t.node - 1) ≡ Some core
      → Cancelling cluster (λ u. waiting_for u h) h tables roots bans cores listings → IsEntryOf (waiting_for t h) t h (get core.entries t)
  entry_there cluster tables roots bans cores listings core here c =
      let low = t.node_in_range.0 in
      let back : t.node ≡ (t.node - 1) + 1 = omega (arith, low) in
      subst (λ o. HasCoreAt cluster (λ u. waiting_for u h) (t.node - 1) h o) here (c.cores_are (t.node - 1)) t back

  pub core_there : (cluster : Cluster) (tables : List Table) (roots : ℕ → Option TaskId) (bans : List (FinMap task_id_cmp ℕ)) (cores : List Cancellations) (listings : BTreeSet Listing)
      → Cancelling cluster (λ u. waiting_for u h) h tables roots bans cores listings → t.node ≤ cluster.nodes → (core : Cancellations) × (slice_get cores (t.node - 1) ≡ Some core)
  core_there cluster tables roots bans cores listings c high =
      at_node cores cluster.nodes t.node (λ place beyond. subst (λ o. HasCoreAt cluster (λ u. waiting_for u h) place h o) beyond (c.cores_are place)) t.node_in_range.0 high

  -- nothing is due where nobody waits, and the counts stay
  pub nothing_due : (e : Event) → Leaves t e → (cluster : Cluster) → Lawful cluster h → (left : ℕ → ℕ) → HasLeft None h left → waiting_for t h ≡ [] → with_answers t (e ∷ h) ≡ e ∷ h
  nothing_due e l cluster lawful left has none = sym (answers_then cluster t e h lawful (leaves_at e l) left has) ∙ ap (λ ws. answers_of (map (answer_to (e ∷ h)) (filter (λ c. is_through (e ∷ h) c t) ws)) left ++ (e ∷ h)) none

  pub counts_unmarked : (e : Event) → Leaves t e → (cluster : Cluster) → Lawful cluster h → (left : ℕ → ℕ) → HasLeft None h left → waiting_for t h ≡ [] → HasLeft None (e ∷ h) left
  counts_unmarked e l cluster lawful left has none =
      counts_at cluster None t e h left left lawful (leaves_at e l) (λ c n. nobody c) (λ c. sym (ap (λ b. cond b (left c - 1) (left c)) (nobody c))) has
    where
      nobody : (c : ℕ) → is_in c (let_go t e h) ≡ false
      nobody c = ap (λ ws. is_in c (filter (λ d. is_through (e ∷ h) d t) ws)) none

  -- ---- where a cancellation of it is under way

  -- the entry of another task
  entry_else : (e : Event) → Leaves t e → (cluster : Cluster) → Lawful cluster h → (w : TaskId) (o : Option Cancellation) → same_task t w ≡ false → IsEntryOf (waiting_for w h) w h o → IsEntryOf (waiting_for w (e ∷ h)) w (e ∷ h) o
  entry_else e l cluster lawful w o differs entry = rw (others_wait cluster t e h lawful (leaves_at e l) w differs) (entry_stays e l (waiting_for w h) w o differs entry)

  -- that of the task itself then
  own_entry : (e : Event) → Leaves t e → (cluster : Cluster) → Lawful cluster h → (x : Cancellation) (receipt : ReceiptParts) → IsCancellationOf (waiting_for t h) t h x → IsEntryOf (waiting_for t (e ∷ h)) t (e ∷ h) (rest_of (with_receipt x receipt))
  own_entry e l cluster lawful x receipt known =
      subst (λ ks. IsEntryOf ks t (e ∷ h) (rest_of (with_receipt x receipt))) (still_waiting cluster t e h lawful (leaves_at e l)) (due_left (waiting_for t h) t (e ∷ h) (with_receipt x receipt) (known_ended e l x receipt known))

  -- the core then
  abbrev pub after_end : Cancellations → Cancellation → ReceiptParts → Cancellations
  after_end core x receipt = left_by (with_entry core t (rest_of (with_receipt x receipt))) t true

  pub noted_ended : (e : Event) → Leaves t e → (cluster : Cluster) → Lawful cluster (e ∷ h) → (tables : List Table) (roots : ℕ → Option TaskId) (bans : List (FinMap task_id_cmp ℕ)) (cores : List Cancellations) (listings : BTreeSet Listing) (table : Table) (core : Cancellations) (x : Cancellation) (receipt : ReceiptParts)
      → slice_get tables (t.node - 1) ≡ Some table → slice_get cores (t.node - 1) ≡ Some core → IsCancellationOf (waiting_for t h) t h x → t.node ≤ cluster.nodes → Cancelling cluster (λ u. waiting_for u h) h tables roots bans cores listings
      → Cancelling cluster (λ u. waiting_for u (e ∷ h)) (e ∷ h) (slice_set tables (t.node - 1) (without_task table t.number)) roots bans (slice_set cores (t.node - 1) (after_end core x receipt)) listings
  noted_ended e l cluster lawful tables roots bans cores listings table core x receipt its_table its_core known high c =
      left_noted e l cluster _ _ tables _ roots bans cores _ listings c (rows_left e l tables table its_table c.rows_are)
      (cores_after cluster (λ u. waiting_for u h) h cores c.cores_are t high core its_core (after_end core x receipt) (λ u. waiting_for u (e ∷ h)) (e ∷ h) (rest_of (with_receipt x receipt)) (entries_left (with_entry core t (rest_of (with_receipt x receipt))) t true)
      (own_entry e l cluster lawful.1 x receipt known) (λ w differs o entry. entry_else e l cluster lawful.1 w o differs entry))
      (waits_after t h (e ∷ h) (stop_facts cluster h lawful.1) (leave_stops e l cluster lawful) cores core its_core c.waits_are (with_entry core t (rest_of (with_receipt x receipt))) refl refl true (sym (stopped_now e l)))
