-- The tables after a task was marked: it asks for nothing more, its bans are sent, and its cancellation is known.
use Rattle.std.proofs.Common.{◌≡◌, ◌≢◌, ◌⊎◌, ◌<◌, ℕ, ◌+◌, ◌-◌, Bool, true, false, cond, not, List, [], ◌∷◌, ◌++◌, map, filter, get_or, Option, Some, None, refl, sym, ap, subst, ◌∙◌, inl, inr, arith}
use Rattle.std.specs.Prelude.{◌==◌, ◌&&◌, ◌||◌, All, find, filter_map, slice_get, slice_set, is_some, unwrap_or, IfSome}
use Rattle.std.specs.List.{list_all, AllByRecursion}
use Rattle.std.specs.FinMap.{FinMap}
use Rattle.std.specs.BTreeSet.{BTreeSet}
use Rattle.std.proofs.lemmas.Bool.Decides.{nat_tests}
use Rattle.std.proofs.Math.Bool.{or-false}
use Rattle.std.proofs.lemmas.List.{map-append, append-nil}
use Rattle.std.proofs.lemmas.List.Elements.{All-map, All-head, All-tail, filter_map-append}
use Rattle.task_ids.specs.Limits.{IsCancel}
use Rattle.task_ids.specs.declared.task_id.TaskId.{TaskId}
use Rattle.task_ids.specs.declared.task_info.TaskInfo.{TaskInfo}
use Rattle.task_ids.specs.declared.cluster.Cluster.{Cluster}
use Rattle.task_ids.specs.declared.corpus.Corpus.{Corpus}
use Rattle.task_ids.specs.TaskIdOrder.{task_id_cmp}
use Rattle.child_track.specs.Track.{with_close}
use Rattle.task_table.specs.Answer.{mark_answer, answer_to_mark}
use Rattle.task_table.specs.declared.ended.MarkAnswer.TheVariants.{Marked}
use Rattle.task_table.specs.Rows.{has_number, marked}
use Rattle.task_table.specs.Table.{Table, with_mark, row_of}
use Rattle.cancel_core.specs.declared.act.Waiter.{Waiter}
use Rattle.cancel_core.specs.declared.act.Act.{Act}
use Rattle.cancel_core.specs.declared.act.Act.TheVariants as acts
use Rattle.cancel_core.specs.Acts.{ban_acts, first_acts, begun}
use Rattle.cancel_core.specs.Cancellation.{Cancellation, is_nil, opened, with_waiter}
use Rattle.cancel_core.specs.Cancellations.{Cancellations, with_entry}
use Rattle.script_lang.specs.declared.command.Script.{Script}
use Rattle.task_events.specs.declared.event.Event.{Event}
use Rattle.task_events.specs.declared.event.Event.TheVariants.{Mark}
use Rattle.task_events.specs.Same.{same_task}
use Rattle.task_events.specs.Tasks.{has_ended}
use Rattle.task_events.specs.Asks.{unanswered_nodes}
use Rattle.task_events.specs.Bans.{mark_of, is_acked, bans_are_placed}
use Rattle.task_events.specs.Messages.{in_flight}
use Rattle.task_events.specs.Messages.Message.{Ban}
use Rattle.task_events.specs.Allowed.{is_number}
use Rattle.task_events.specs.Lawful.{Lawful}
use Rattle.task_laws.proofs.Asks.{ask_facts}
use Rattle.task_laws.proofs.Bans.{ban_facts}
use Rattle.task_laws.proofs.Numbers.{number}
use Rattle.task_laws.proofs.Reach.{reach_facts}
use Rattle.task_laws.proofs.Same.{same_fields, same_task_tells, same_tests}
use Rattle.task_laws.proofs.Stops.{stop_facts}
use Rattle.world_moves.specs.declared.flight.Sent.{Sent}
use Rattle.node_parts.specs.declared.listing.Listing.{Listing}
use Rattle.node_parts.specs.declared.running.Running.{Running}
use Rattle.world_moves.specs.Acts.{message_in, answer_in, messages_in, offered_in, left_after}
use Rattle.world_moves.specs.Cancels.{waiting_for, waits_for_end, is_through, answer_to}
use Rattle.world_moves.specs.Left.{HasLeft}
use Rattle.world_moves.specs.Cancelling.{Cancelling, IsRowOf, HasRows, HasBansAt, IsEntryOf, IsCancellationOf, waiting_but, cancels_of, naming_of}
use Rattle.world_moves.specs.Facts.{facts_of}
use Rattle.world_moves.specs.Flights.{message_of}
use Rattle.command_roots.specs.Roots.{scripted}
use Rattle.world_moves.specs.Ties.{Ties, RunsAt, IsTableAt, IsGood}
use Rattle.world_moves.proofs.AtOneTask.{at_mark as mark_at}
use Rattle.world_moves.proofs.CountsAfter.{let_go, let_go_differ, still_waiting, others_wait, left_map}
use Rattle.world_moves.proofs.NamedCancels.{is_in}
use Rattle.world_moves.proofs.QuietCounts.{counts_at}
use Rattle.world_moves.proofs.AtPlace.{set_at}
use Rattle.world_moves.proofs.CancelFrame.{entry_frame}
use Rattle.world_moves.proofs.CoresAfter.{cores_after}
use Rattle.world_moves.proofs.FactsAfter.{at_mark}
use Rattle.world_moves.proofs.FlightAfter.{all_stay}
use Rattle.world_moves.proofs.KeptTasks.{kept_after}
use Rattle.world_moves.proofs.LiveRows.{rows_live, live_counted}
use Rattle.world_moves.proofs.OneStops.{ListingsStay, listings_stay}
use Rattle.world_moves.proofs.WaitsAfter.{waits_set}
use Rattle.world_moves.proofs.WhoStops.{mark_stops, none_there}
use Rattle.world_moves.proofs.StepsAfter.{kept_running}
use Rattle.world_moves.specs.Good.{so_far}

-- ---- the acts: bans, and the answer to the first waiter where there is nothing to ban

no_answers : (t : TaskId) (c : ℕ) (ns : List ℕ) → filter_map answer_in (ban_acts t c ns) ≡ []
no_answers t c [] = refl
no_answers t c (n ∷ ns) = no_answers t c ns

bans_sent : (node : ℕ) (t : TaskId) (c : ℕ) (past : List Event) (ns : List ℕ) → map (message_of past) (messages_in node (ban_acts t c ns)) ≡ map Some (map (Ban t c) ns)
bans_sent node t c past [] = refl
bans_sent node t c past (n ∷ ns) = ap (λ ms. Some (Ban t c n) ∷ ms) (bans_sent node t c past ns)

nothing_sent : (node : ℕ) (t : TaskId) (c : ℕ) (ns : List ℕ) (waiter : Option Waiter) → messages_in node (first_acts t c ns waiter) ≡ []
nothing_sent node t c ns None = refl
nothing_sent node t c ns (Some w) = here (is_nil ns && not w.wait)
  where
    here : (b : Bool) → filter_map (message_in node) (cond b (acts.AnswerPlaced w.cancel t ∷ []) []) ≡ []
    here true = refl
    here false = refl

both_true : (a b : Bool) → true ≡ (a && not b) → b ≡ false
both_true true false e = refl
both_true true true e = absurd (cc)
both_true false b e = absurd (cc)

-- ---- the rows

ids_marked : (number cancel : ℕ) (rows : List TaskInfo) → map (λ row. row.id) (map (marked number cancel) rows) ≡ map (λ row. row.id) rows
ids_marked number cancel [] = refl
ids_marked number cancel (row ∷ rows) = here (has_number number row) (ids_marked number cancel rows)
  where
    here : (b : Bool) → map (λ row. row.id) (map (marked number cancel) rows) ≡ map (λ row. row.id) rows
        → map (λ (r : TaskInfo). r.id) (cond b (record row { cancelled = Some cancel }) row ∷ map (marked number cancel) rows) ≡ map (λ row. row.id) (row ∷ rows)
    here true e = ap (λ ids. row.id ∷ ids) e
    here false e = ap (λ ids. row.id ∷ ids) e

number_tells : (t u : TaskId) → u.node ≡ t.node → (b : Bool) → (u.number == t.number) ≡ b → same_task u t ≡ b
number_tells t u node true e = let same : u ≡ t = same_fields u t node (grind (arith, nat_tests)) in grind (arith, same_tests)
number_tells t u node false e = grind (arith, same_tests)

module _ (cluster : Cluster) (t : TaskId) (c : ℕ) (h : List Event) (lawful : Lawful cluster (Mark t c ∷ h)) where
  itself : same_task t t ≡ true
  itself = grind (arith, same_tests)

  pub not_ended : has_ended t h ≡ false
  not_ended = (ask_facts cluster h lawful.1).live_or_ended t lawful.0.live

  not_acked : (n : ℕ) → is_acked n t h ≡ false
  not_acked n =
      let facts = ban_facts cluster h lawful.1 in
      let course = facts.course n t in
      let none = ap (number (λ m. n == m)) (facts.unmarked t lawful.0.unmarked) in
      grind (arith, course, none)

  none_acked : (ns : List ℕ) → list_all (λ n. is_acked n t h) ns ≡ is_nil ns
  none_acked [] = refl
  none_acked (n ∷ ns) = rw (not_acked n) refl

  all_open : (ns : List ℕ) → filter (λ n. not (is_acked n t h)) ns ≡ ns
  all_open [] = refl
  all_open (n ∷ ns) = rw (not_acked n) (ap (λ later. n ∷ later) (all_open ns))

  placed : bans_are_placed t (Mark t c ∷ h) ≡ is_nil (unanswered_nodes t h)
  placed = rw itself (none_acked (unanswered_nodes t h))

  -- ---- what is given to the first waiter

  through : (w : Waiter) → w.wait ≡ waits_for_end w.cancel h → is_through (Mark t c ∷ h) w.cancel t ≡ (is_nil (unanswered_nodes t h) && not w.wait)
  through w kind =
      ap (λ b. b && (not (waits_for_end w.cancel h) || has_ended t h)) placed
      ∙ ap (λ b. is_nil (unanswered_nodes t h) && (not (waits_for_end w.cancel h) || b)) not_ended
      ∙ ap (λ b. is_nil (unanswered_nodes t h) && b) (or-false (not (waits_for_end w.cancel h)))
      ∙ ap (λ b. is_nil (unanswered_nodes t h) && not b) (sym kind)

  first_answer : (w : Waiter) → w.wait ≡ waits_for_end w.cancel h → (b : Bool) → b ≡ (is_nil (unanswered_nodes t h) && not w.wait)
      → filter_map answer_in (cond b (acts.AnswerPlaced w.cancel t ∷ []) []) ≡ map (answer_to (Mark t c ∷ h)) (cond b (w.cancel ∷ []) [])
  first_answer w kind true e = let no_wait = sym kind ∙ both_true (is_nil (unanswered_nodes t h)) w.wait e in rw no_wait refl
  first_answer w kind false e = refl

  first_answers : (waiter : Option Waiter) → waiting_for t h ≡ cancels_of waiter → IfSome waiter (λ w. (w.wait ≡ waits_for_end w.cancel h) × IsCancel w.cancel)
      → filter_map answer_in (first_acts t c (unanswered_nodes t h) waiter) ≡ map (answer_to (Mark t c ∷ h)) (let_go t (Mark t c) h)
  first_answers None e k = sym (ap (λ ws. map (answer_to (Mark t c ∷ h)) (filter (λ j. is_through (Mark t c ∷ h) j t) ws)) e)
  first_answers (Some w) e k =
      first_answer w k.0 _ refl ∙ sym (ap (λ ws. map (answer_to (Mark t c ∷ h)) (filter (λ j. is_through (Mark t c ∷ h) j t) ws)) e
      ∙ ap (λ b. map (answer_to (Mark t c ∷ h)) (cond b (w.cancel ∷ []) [])) (through w k.0))

  mark_offered : (waiter : Option Waiter) → waiting_for t h ≡ cancels_of waiter → IfSome waiter (λ w. (w.wait ≡ waits_for_end w.cancel h) × IsCancel w.cancel)
      → offered_in (ban_acts t c (unanswered_nodes t h) ++ first_acts t c (unanswered_nodes t h) waiter) ≡ map (answer_to (Mark t c ∷ h)) (let_go t (Mark t c) h)
  mark_offered waiter e k =
      filter_map-append answer_in (ban_acts t c (unanswered_nodes t h)) (first_acts t c (unanswered_nodes t h) waiter)
      ∙ ap (λ es. es ++ filter_map answer_in (first_acts t c (unanswered_nodes t h) waiter)) (no_answers t c (unanswered_nodes t h)) ∙ first_answers waiter e k

  -- only the cancel that has just named the task goes on
  nobody_else : (waiter : Option Waiter) → waiting_for t h ≡ cancels_of waiter → (k : ℕ) → is_number k (naming_of waiter) ≡ false → is_in k (let_go t (Mark t c) h) ≡ false
  nobody_else waiter e k n = ap (λ ws. is_in k (filter (λ j. is_through (Mark t c ∷ h) j t) ws)) e ∙ by_waiter waiter n
    where
      by_waiter : (w : Option Waiter) → is_number k (naming_of w) ≡ false → is_in k (filter (λ j. is_through (Mark t c ∷ h) j t) (cancels_of w)) ≡ false
      by_waiter None n = refl
      by_waiter (Some w) n = by_test (is_through (Mark t c ∷ h) w.cancel t)
        where
          by_test : (b : Bool) → is_in k (cond b (w.cancel ∷ []) []) ≡ false
          by_test true = rw n refl
          by_test false = refl

  pub mark_counted : (nodes : List ℕ) (done : List Act) (waiter : Option Waiter) (left after : ℕ → ℕ) → nodes ≡ unanswered_nodes t h → done ≡ ban_acts t c nodes ++ first_acts t c nodes waiter
      → waiting_for t h ≡ cancels_of waiter → IfSome waiter (λ w. (w.wait ≡ waits_for_end w.cancel h) × IsCancel w.cancel)
      → ((k : ℕ) → after k ≡ left_after (offered_in done) left k) → HasLeft (naming_of waiter) h left → HasLeft (naming_of waiter) (Mark t c ∷ h) after
  mark_counted nodes done waiter left after its_nodes its_acts e k is has =
      counts_at cluster (naming_of waiter) t (Mark t c) h left after lawful.1 (mark_at t c h lawful.0.unmarked) (nobody_else waiter e)
      (λ j. is j ∙ ap (λ es. left_after es left j) offered ∙ left_map (Mark t c ∷ h) (let_go t (Mark t c) h) left j (let_go_differ cluster t (Mark t c) h lawful.1 (mark_at t c h lawful.0.unmarked))) has
    where
      offered : offered_in done ≡ map (answer_to (Mark t c ∷ h)) (let_go t (Mark t c) h)
      offered = ap offered_in (its_acts ∙ ap (λ ns. ban_acts t c ns ++ first_acts t c ns waiter) its_nodes) ∙ mark_offered waiter e k

  mark_sent : (node : ℕ) (past : List Event) (waiter : Option Waiter)
      → map (message_of past) (messages_in node (ban_acts t c (unanswered_nodes t h) ++ first_acts t c (unanswered_nodes t h) waiter)) ≡ map Some (map (Ban t c) (unanswered_nodes t h))
  mark_sent node past waiter =
      ap (map (message_of past)) (filter_map-append (message_in node) (ban_acts t c (unanswered_nodes t h)) (first_acts t c (unanswered_nodes t h) waiter)
      ∙ ap (λ ms. messages_in node (ban_acts t c (unanswered_nodes t h)) ++ ms) (nothing_sent node t c (unanswered_nodes t h) waiter) ∙ append-nil _)
      ∙ bans_sent node t c past (unanswered_nodes t h)

  -- ---- what the core knows

  left_waiting : (w : Waiter) → w.wait ≡ waits_for_end w.cancel h → (b : Bool) → IsCancellationOf (cond (not b) (w.cancel ∷ []) []) t (Mark t c ∷ h)
      (cond b (opened c (unanswered_nodes t h)) (record (opened c (unanswered_nodes t h)) { waiters = with_waiter [] w }))
  left_waiting w kind true = rw itself (refl, refl, sym (all_open (unanswered_nodes t h)), refl, sym not_ended)
  left_waiting w kind false = rw itself (refl, refl, sym (all_open (unanswered_nodes t h)), (λ i. record { cancel = w.cancel; wait = kind i } ∷ []), sym not_ended)

  first_known : (waiter : Option Waiter) → waiting_for t h ≡ cancels_of waiter → IfSome waiter (λ w. (w.wait ≡ waits_for_end w.cancel h) × IsCancel w.cancel)
      → IsCancellationOf (filter (λ k. not (is_through (Mark t c ∷ h) k t)) (waiting_for t h)) t (Mark t c ∷ h) (begun c (unanswered_nodes t h) waiter)
  first_known None e k = rw e (rw itself (refl, refl, sym (all_open (unanswered_nodes t h)), refl, sym not_ended))
  first_known (Some w) e k =
      subst (λ ws. IsCancellationOf ws t (Mark t c ∷ h) (begun c (unanswered_nodes t h) (Some w)))
      (sym (ap (filter (λ k. not (is_through (Mark t c ∷ h) k t))) e ∙ ap (λ b. cond (not b) (w.cancel ∷ []) []) (through w k.0)))
      (left_waiting w k.0 (is_nil (unanswered_nodes t h) && not w.wait))

  own_waiting : waiting_for t (Mark t c ∷ h) ≡ filter (λ k. not (is_through (Mark t c ∷ h) k t)) (waiting_for t h)
  own_waiting = sym (still_waiting cluster t (Mark t c) h lawful.1 (mark_at t c h lawful.0.unmarked))

  own_entry : (waiter : Option Waiter) → waiting_for t h ≡ cancels_of waiter → IfSome waiter (λ w. (w.wait ≡ waits_for_end w.cancel h) × IsCancel w.cancel)
      → IsEntryOf (waiting_for t (Mark t c ∷ h)) t (Mark t c ∷ h) (Some (begun c (unanswered_nodes t h) waiter))
  own_entry waiter e k =
      (under_way, subst (λ ws. IsCancellationOf ws t (Mark t c ∷ h) (begun c (unanswered_nodes t h) waiter)) (sym own_waiting) (first_known waiter e k))
    where
      under_way : (is_some (mark_of t (Mark t c ∷ h)) && not (has_ended t h && bans_are_placed t (Mark t c ∷ h))) ≡ true
      under_way = rw (itself, not_ended) refl

  other_entry : (u : TaskId) → same_task t u ≡ false → (o : Option Cancellation) → IsEntryOf (waiting_but t h u) u h o → IsEntryOf (waiting_for u (Mark t c ∷ h)) u (Mark t c ∷ h) o
  other_entry u differs o i =
      let turned : same_task u t ≡ false = grind (arith, same_tests) in
      subst (λ ws. IsEntryOf ws u (Mark t c ∷ h) o) (sym (others_wait cluster t (Mark t c) h lawful.1 (mark_at t c h lawful.0.unmarked) u differs)) (entry_frame (waiting_for u h) u h (Mark t c) o turned tt (subst (λ ws. IsEntryOf ws u h o) before i))
    where
      before : waiting_but t h u ≡ waiting_for u h
      before = ap (λ b. cond b [] (waiting_for u h)) differs

  -- ---- the rows tell the mark

  row_marked : (row : TaskInfo) → row.id.node ≡ t.node → IsRowOf h row → IsRowOf (Mark t c ∷ h) (marked t.number c row)
  row_marked row node known = here (row.id.number == t.number) (number_tells t row.id node _ refl)
    where
      here : (b : Bool) → same_task row.id t ≡ b → IsRowOf (Mark t c ∷ h) (cond b (record row { cancelled = Some c }) row)
      here true e = rw e (known.0, refl)
      here false e = rw e known

  row_elsewhere : (row : TaskInfo) → row.id.node ≢ t.node → IsRowOf h row → IsRowOf (Mark t c ∷ h) row
  row_elsewhere row other known = let e : same_task row.id t ≡ false = differs (same_task_tells row.id t) in rw e known
    where
      differs : ((same_task row.id t ≡ true) × (row.id ≡ t)) ⊎ ((same_task row.id t ≡ false) × (row.id ≢ t)) → same_task row.id t ≡ false
      differs (inl (is_one, same)) = absurd (other (ap (λ (x : TaskId). x.node) same))
      differs (inr (e, apart)) = e

  -- a table that fits, with rows that do
  abbrev Fits : ℕ → Option Table → Type 0
  Fits place o = IsTableAt cluster place h o × HasRows h o

  rows_marked : (place : ℕ) (table : Table) → place + 1 ≡ t.node → Fits place (Some table) → HasRows (Mark t c ∷ h) (Some (with_mark table t.number c))
  rows_marked place table node fits =
      All-map (IsRowOf (Mark t c ∷ h)) (marked t.number c) table.live
      (λ k d i. row_marked (get_or table.live k d) ((rows_live cluster (place + 1) h table lawful.1 fits.0 k d i).0 ∙ node) (fits.1 k d i))

  rows_elsewhere : (place : ℕ) (o : Option Table) → place ≢ t.node - 1 → Fits place o → HasRows (Mark t c ∷ h) o
  rows_elsewhere place None other fits = tt
  rows_elsewhere place (Some table) other fits = λ k d i.
      row_elsewhere (get_or table.live k d) (λ e. other (let node = (rows_live cluster (place + 1) h table lawful.1 fits.0 k d i).0 in omega arith)) (fits.1 k d i)

  -- the row of the task has no mark before
  unmarked_row : (rows : List TaskInfo) → All (λ row. row.id.node ≡ t.node) rows → All (IsRowOf h) rows → 0 < number (same_task t) (map (λ row. row.id) rows) → mark_answer (find (has_number t.number) rows) ≡ Marked
  unmarked_row [] nodes known i = absurd (omega arith)
  unmarked_row (row ∷ rows) nodes known i =
      here (row.id.number == t.number) (number_tells t row.id (All-head (λ row. row.id.node ≡ t.node) row rows nodes) _ refl) (unmarked_row rows (All-tail (λ row. row.id.node ≡ t.node) row rows nodes) (All-tail (IsRowOf h) row rows known))
    where
      here : (b : Bool) → same_task row.id t ≡ b → (0 < number (same_task t) (map (λ row. row.id) rows) → mark_answer (find (has_number t.number) rows) ≡ Marked)
          → mark_answer (cond b (Some row) (find (has_number t.number) rows)) ≡ Marked
      here true e later =
          let same : row.id ≡ t = grind (arith, same_tests) in
          ap answer_to_mark ((All-head (IsRowOf h) row rows known).1 ∙ ap (λ u. mark_of u h) same ∙ lawful.0.unmarked)
      here false e later = let off : same_task t row.id ≡ false = grind (arith, same_tests) in let more = rw off at i in later (omega arith)

  pub marks_row : (place : ℕ) (table : Table) → place + 1 ≡ t.node → IsTableAt cluster place h (Some table) → HasRows h (Some table) → mark_answer (row_of t.number table) ≡ Marked
  marks_row place table node fits known =
      unmarked_row table.live (λ k d i. (rows_live cluster (place + 1) h table lawful.1 fits k d i).0 ∙ node) known
      (live_counted cluster (place + 1) h table lawful.1 fits t (sym node) lawful.0.live)

  -- ---- the tables together

  node_place : (t.node - 1) + 1 ≡ t.node
  node_place = let low = t.node_in_range.0 in omega arith

  pub after_mark : (corpus : Corpus) (script : Script) (tasks after : TaskId → Option Running) (tables : List Table) (table : Table) (flight queue : List Sent) (r : Running)
      → Ties cluster corpus script h tasks tables flight → tasks t ≡ Some r → after t ≡ Some (record r { track = with_close r.track c }) → ((q : TaskId) → same_task t q ≡ false → after q ≡ tasks q)
      → slice_get tables (t.node - 1) ≡ Some table → map (message_of (Mark t c ∷ h)) queue ≡ map Some (map (Ban t c) (unanswered_nodes t h)) → IsCancel c
      → Ties cluster corpus script (Mark t c ∷ h) after (slice_set tables (t.node - 1) (with_mark table t.number c)) (flight ++ queue)
  after_mark corpus script tasks after tables table flight queue r ties was here others its_table its_queue number = record {
    lawful = lawful;
    kept = kept_after cluster corpus (scripted script) t (Mark t c) h tasks after refl refl ties.kept
        (rw here (subst (λ facts. RunsAt cluster (so_far corpus script) h t facts (record r { track = with_close r.track c })) (sym (at_mark (scripted script) t h c)) (closed (kept_running cluster corpus script h tasks tables flight ties t lawful.0.live r was)))) others;
    listed = set_at (λ place. IsTableAt cluster place h) (λ place. IsTableAt cluster place (Mark t c ∷ h)) tables (t.node - 1) table (with_mark table t.number c) its_table ties.listed
        (listed_here (subst (IsTableAt cluster (t.node - 1) h) its_table (ties.listed (t.node - 1)))) (λ place apart fits. listed_there place (slice_get tables place) fits);
    sent = map-append (message_of (Mark t c ∷ h)) flight queue ∙ ap (λ ms. ms ++ map (message_of (Mark t c ∷ h)) queue) (all_stay (Mark t c) h flight (in_flight h) ties.sent)
        ∙ ap (λ ms. map Some (in_flight h) ++ ms) its_queue ∙ sym (map-append Some (in_flight h) (map (Ban t c) (unanswered_nodes t h)));
    good = bans_good (in_flight h) ties.good (unanswered_nodes t h);
    within = ties.within;
    plain = ties.plain;
  }
    where
      closed : RunsAt cluster (so_far corpus script) h t (facts_of (scripted script) t h) r → RunsAt cluster (so_far corpus script) h t (record (facts_of (scripted script) t h) { mark = Some c }) (record r { track = with_close r.track c })
      closed x = record {
        live = x.live;
        id = x.id;
        token = x.token;
        track = ap (λ track. with_close track c) x.track ∙ ap (λ o. record { task = t; asks = (facts_of (scripted script) t h).awaited; closed = Some (unwrap_or o c) }) lawful.0.unmarked;
        page = x.page;
        new = x.new;
        headers = x.headers;
        works = x.works;
      }

      listed_here : IsTableAt cluster (t.node - 1) h (Some table) → IsTableAt cluster (t.node - 1) (Mark t c ∷ h) (Some (with_mark table t.number c))
      listed_here i = record { node_is = i.node_is; slots_are = i.slots_are; last_is = i.last_is; lists = ids_marked t.number c table.live ∙ i.lists }

      listed_there : (place : ℕ) (o : Option Table) → IsTableAt cluster place h o → IsTableAt cluster place (Mark t c ∷ h) o
      listed_there place None i = i
      listed_there place (Some other) i = record { node_is = i.node_is; slots_are = i.slots_are; last_is = i.last_is; lists = i.lists }

      bans_good : (ms : List _) → AllByRecursion (IsGood cluster (so_far corpus script h) (Mark t c ∷ h)) ms → (ns : List ℕ) → AllByRecursion (IsGood cluster (so_far corpus script h) (Mark t c ∷ h)) (ms ++ map (Ban t c) ns)
      bans_good [] good [] = tt
      bans_good [] good (n ∷ ns) = (number, bans_good [] tt ns)
      bans_good (m ∷ ms) good ns = (good.0, bans_good ms good.1 ns)

  pub cancels_after_mark : (tables : List Table) (table : Table) (roots : ℕ → Option TaskId) (bans : List (FinMap task_id_cmp ℕ)) (cores : List Cancellations) (core : Cancellations) (listings : BTreeSet Listing) (waiter : Option Waiter)
      → Cancelling cluster (waiting_but t h) h tables roots bans cores listings → ((place : ℕ) → IsTableAt cluster place h (slice_get tables place))
      → slice_get tables (t.node - 1) ≡ Some table → slice_get cores (t.node - 1) ≡ Some core
      → waiting_for t h ≡ cancels_of waiter → IfSome waiter (λ w. (w.wait ≡ waits_for_end w.cancel h) × IsCancel w.cancel)
      → Cancelling cluster (λ u. waiting_for u (Mark t c ∷ h)) (Mark t c ∷ h) (slice_set tables (t.node - 1) (with_mark table t.number c)) roots bans
      (slice_set cores (t.node - 1) (with_entry core t (Some (begun c (unanswered_nodes t h) waiter)))) listings
  cancels_after_mark tables table roots bans cores core listings waiter known listed its_table its_core e k = record {
    rows_are = set_at Fits (λ place. HasRows (Mark t c ∷ h)) tables (t.node - 1) table (with_mark table t.number c) its_table (λ place. (listed place, known.rows_are place))
        (rows_marked (t.node - 1) table node_place (subst (Fits (t.node - 1)) its_table (listed (t.node - 1), known.rows_are (t.node - 1)))) (λ place apart fits. rows_elsewhere place (slice_get tables place) apart fits);
    roots_are = known.roots_are;
    bans_are = λ place. same_bans place (slice_get bans place) (known.bans_are place);
    cores_are = cores_after cluster (waiting_but t h) h cores known.cores_are t ((reach_facts cluster h lawful.1).live_in t lawful.0.live) core its_core (with_entry core t (Some (begun c (unanswered_nodes t h) waiter))) (λ u. waiting_for u (Mark t c ∷ h)) (Mark t c ∷ h)
        (Some (begun c (unanswered_nodes t h) waiter)) refl (own_entry waiter e k) other_entry;
    waits_are = waits_set h (Mark t c ∷ h) none_left cores (t.node - 1) core its_core known.waits_are (with_entry core t (Some (begun c (unanswered_nodes t h) waiter))) refl refl;
    listings_are = known.listings_are;
  }
    where
      -- the task is in no list, for it was not marked
      none_left : ListingsStay h (Mark t c ∷ h)
      none_left =
          let facts = stop_facts cluster h lawful.1 in
          listings_stay t h (Mark t c ∷ h) facts (mark_stops cluster t h facts lawful.0.live lawful.0.unmarked c lawful.0) (none_there cluster t h facts lawful.0.live lawful.0.unmarked (Mark t c ∷ h))

      same_bans : (place : ℕ) (o : Option (FinMap task_id_cmp ℕ)) → HasBansAt cluster place h o → HasBansAt cluster place (Mark t c ∷ h) o
      same_bans place None i = i
      same_bans place (Some own) i = i

  -- ---- the events together

  pub mark_queue : (nodes : List ℕ) (done : List Act) (node : ℕ) (waiter : Option Waiter) → nodes ≡ unanswered_nodes t h → done ≡ ban_acts t c nodes ++ first_acts t c nodes waiter
      → map (message_of (Mark t c ∷ h)) (messages_in node done) ≡ map Some (map (Ban t c) (unanswered_nodes t h))
  mark_queue nodes done node waiter its_nodes its_acts =
      ap (λ xs. map (message_of (Mark t c ∷ h)) (messages_in node xs)) (its_acts ∙ ap (λ ns. ban_acts t c ns ++ first_acts t c ns waiter) its_nodes) ∙ mark_sent node (Mark t c ∷ h) waiter
