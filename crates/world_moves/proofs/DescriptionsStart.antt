-- What task lists show after a task has started: of it what its request asks for, and of the others what they showed.
use Rattle.std.proofs.Common.{◌≡◌, ◌≢◌, ◌⊎◌, ◌<◌, ◌≤◌, ◌-◌, ◌+◌, ℕ, true, false, List, [], ◌∷◌, get_or, suc, zero, Option, Some, None, refl, sym, ap, subst, ◌∙◌, inl, inr, arith}
use Rattle.std.specs.Prelude.{slice_get}
use Rattle.std.specs.List.{AllByRecursion}
use Rattle.std.proofs.lemmas.List.Elements.{All-push}
use Rattle.task_ids.specs.declared.task_id.TaskId.{TaskId}
use Rattle.task_ids.specs.declared.task_info.NewTask.{NewTask}
use Rattle.task_ids.specs.declared.task_info.TaskInfo.{TaskInfo}
use Rattle.task_ids.specs.declared.task_info.Headers.{Headers}
use Rattle.task_ids.specs.declared.cluster.Cluster.{Cluster}
use Rattle.task_ids.specs.declared.corpus.Corpus.{Corpus}
use Rattle.child_track.specs.Token.{Token}
use Rattle.node_parts.specs.Starting.{task_for}
use Rattle.node_parts.specs.declared.running.Running.{Running}
use Rattle.task_table.specs.Rows.{row_for}
use Rattle.task_table.specs.Table.{Table, with_task}
use Rattle.script_lang.specs.declared.command.Script.{Script}
use Rattle.task_events.specs.declared.request.Request.{Request}
use Rattle.task_events.specs.declared.event.Event.{Event}
use Rattle.task_events.specs.declared.event.Event.TheVariants.{Root, Put}
use Rattle.task_events.specs.Same.{same_task}
use Rattle.task_events.specs.Tasks.{is_live, last_number}
use Rattle.task_events.specs.Asks.{request_of_ask}
use Rattle.task_events.specs.Clock.{clock}
use Rattle.task_events.specs.TaskRows.{headers_of}
use Rattle.task_events.specs.Lawful.{Lawful}
use Rattle.task_laws.proofs.Asks.{ask_facts}
use Rattle.task_laws.proofs.InFlight.{requests_in_flight}
use Rattle.task_laws.proofs.Same.{same_task_tells, same_tests}
use Rattle.command_roots.specs.Roots.{root_request, root_headers, scripted}
use Rattle.world_moves.specs.declared.flight.Sent.{Sent}
use Rattle.world_moves.specs.declared.flight.Sent.TheVariants as sent
use Rattle.world_moves.specs.Describing.{IsDescribed, DescribesAll, Carries}
use Rattle.world_moves.specs.Ties.{Ties, IsTableAt}
use Rattle.world_moves.proofs.AtPlace.{set_at}
use Rattle.task_ids.proofs.Each.{all_here}
use Rattle.world_moves.proofs.CancelsAfterStart.{rows_differ, is_new}
use Rattle.world_moves.proofs.RequestsInFlight.{arrives}
use Rattle.world_moves.proofs.Tables.{IsPutOn, table_of}

itself : (t : TaskId) → same_task t t ≡ true
itself t = grind (arith, same_tests)

-- what is so of each place of a list
all_at : {X : Type 0} (P : X → Type 0) (xs : List X) → ((i : ℕ) (x : X) → slice_get xs i ≡ Some x → P x) → AllByRecursion P xs
all_at P [] each = tt
all_at P (x ∷ xs) each = (each zero x refl, all_at P xs (λ i y e. each (suc i) y e))

-- ---- rows

module _ (cluster : Cluster) (script : Script) (h : List Event) (tables : List Table) (listed : (place : ℕ) → IsTableAt cluster place h (slice_get tables place)) (n : ℕ) (low : 1 ≤ n) (high : n ≤ cluster.nodes)
    (t : TaskId) (task : NewTask) (after : List Table) (put : IsPutOn tables n t task after) (lawful : Lawful cluster h) where
  pub new_number : last_number t.node h < t.number
  new_number = is_new cluster h tables listed n low high t task after put lawful

  rows_after : (e : Event) → ((row : TaskInfo) → same_task t row.id ≡ false → IsDescribed script h row → IsDescribed script (e ∷ h) row) → IsDescribed script (e ∷ h) (row_for t task) → ((place : ℕ) → DescribesAll script h (slice_get tables place))
      → (place : ℕ) → DescribesAll script (e ∷ h) (slice_get after place)
  rows_after e stays new rows =
      let x = table_of cluster h tables listed n low high in
      let old = subst (DescribesAll script h) x.1 (rows (n - 1)) in
      let pushed = All-push (IsDescribed script (e ∷ h)) x.0.live (row_for t task) (λ k d i. stays (get_or x.0.live k d) (rows_differ cluster t h lawful new_number n x.0 x.2 k d i) (old k d i)) new in
      subst (λ (ts : List Table). (place : ℕ) → DescribesAll script (e ∷ h) (slice_get ts place)) (sym (put.row x.0 x.1))
      (set_at (λ place o. IsTableAt cluster place h o × DescribesAll script h o) (λ place o. DescribesAll script (e ∷ h) o) tables (n - 1) x.0 (with_task x.0 t task) x.1 (λ place. (listed place, rows place)) pushed
      (λ place apart i. elsewhere place (slice_get tables place) i))
    where
      elsewhere : (place : ℕ) (o : Option Table) → IsTableAt cluster place h o × DescribesAll script h o → DescribesAll script (e ∷ h) o
      elsewhere place None i = tt
      elsewhere place (Some table) i = λ k d l. stays (get_or table.live k d) (rows_differ cluster t h lawful new_number (place + 1) table i.0 k d l) (i.1 k d l)

  turned : (row : TaskInfo) → same_task t row.id ≡ false → same_task row.id t ≡ false
  turned row e = grind (arith, same_tests)

  pub rows_put : (p : TaskId) (k : ℕ) (request : Request) (now : ℕ) (headers : Headers) → task ≡ task_for request (Some p) now headers → request_of_ask p k h ≡ Some request → now ≡ clock h → headers ≡ headers_of (scripted script) p h
      → ((place : ℕ) → DescribesAll script h (slice_get tables place)) → (place : ℕ) → DescribesAll script (Put t p k ∷ h) (slice_get after place)
  rows_put p k request now headers is asked moment carried rows = rows_after (Put t p k) stays new rows
    where
      stays : (row : TaskInfo) → same_task t row.id ≡ false → IsDescribed script h row → IsDescribed script (Put t p k ∷ h) row
      stays row differs d =
          let off = turned row differs in
          record { request = d.request; asked = rw off d.asked; action = d.action; description = d.description; start = rw off d.start; headers = rw off d.headers }

      new : IsDescribed script (Put t p k ∷ h) (row_for t task)
      new = record { request = request; asked = rw (itself t) asked; action = ap (λ x. x.action) is; description = ap (λ x. x.description) is; start = rw (itself t) (ap (λ x. x.start_ms) is ∙ moment); headers = rw (itself t) (ap (λ x. x.headers) is ∙ carried) }

  pub rows_root : (command : ℕ) (request : Request) (now : ℕ) (headers : Headers) → task ≡ task_for request None now headers → root_request script command h ≡ Some request → now ≡ clock h → headers ≡ root_headers script command
      → ((place : ℕ) → DescribesAll script h (slice_get tables place)) → (place : ℕ) → DescribesAll script (Root command t ∷ h) (slice_get after place)
  rows_root command request now headers is asked moment carried rows = rows_after (Root command t) stays new rows
    where
      stays : (row : TaskInfo) → same_task t row.id ≡ false → IsDescribed script h row → IsDescribed script (Root command t ∷ h) row
      stays row differs d =
          let off = turned row differs in
          record { request = d.request; asked = rw off d.asked; action = d.action; description = d.description; start = rw off d.start; headers = rw off d.headers }

      new : IsDescribed script (Root command t ∷ h) (row_for t task)
      new = record { request = request; asked = rw (itself t) asked; action = ap (λ x. x.action) is; description = ap (λ x. x.description) is; start = rw (itself t) (ap (λ x. x.start_ms) is ∙ moment); headers = rw (itself t) (ap (λ x. x.headers) is ∙ carried) }

-- ---- messages

module _ (cluster : Cluster) (corpus : Corpus) (script : Script) (h : List Event) (tasks : TaskId → Option Running) (tables : List Table) (flight : List Sent) (ties : Ties cluster corpus script h tasks tables flight)
    (t : TaskId) (new : last_number t.node h < t.number) (carried : AllByRecursion (Carries script h) flight) where
  -- the task that asked for something that is in flight is another
  asker_differs : (nth : ℕ) (token : Token) (to at : ℕ) (headers : Headers) → slice_get flight nth ≡ Some (sent.Request token to at headers) → same_task token.parent t ≡ false
  asker_differs nth token to at headers e =
      let a = arrives cluster corpus script h tasks tables flight ties nth token to at headers e in
      let facts = ask_facts cluster h ties.lawful in
      let requested = a.requested in
      let counted = requests_in_flight token.parent token.ask h in
      let place = facts.place token.parent token.ask in
      let asker = facts.live_asker token.parent token.ask in
      let live : is_live token.parent h ≡ true = grind (arith, requested, counted, place, asker) in
      apart token.parent (facts.born token.parent live) (same_task_tells token.parent t)
    where
      apart : (p : TaskId) → p.number ≤ last_number p.node h → ((same_task p t ≡ true) × (p ≡ t)) ⊎ ((same_task p t ≡ false) × (p ≢ t)) → same_task p t ≡ false
      apart p born (inl (is_one, same)) = absurd (let low = subst (λ (x : TaskId). x.number ≤ last_number x.node h) same born in omega (arith, low, new))
      apart p born (inr (differs, other)) = differs

  pub carried_put : (p : TaskId) (k : ℕ) → AllByRecursion (Carries script (Put t p k ∷ h)) flight
  carried_put p k = all_at (Carries script (Put t p k ∷ h)) flight one
    where
      one : (i : ℕ) (m : Sent) → slice_get flight i ≡ Some m → Carries script (Put t p k ∷ h) m
      one i (sent.Request token to at headers) e = let off = asker_differs i token to at headers e in rw off (all_here (Carries script h) flight i (sent.Request token to at headers) carried e)
      one i (sent.Answer receipt at) e = tt
      one i (sent.Notice notice) e = tt

  pub carried_root : (command : ℕ) → AllByRecursion (Carries script (Root command t ∷ h)) flight
  carried_root command = all_at (Carries script (Root command t ∷ h)) flight one
    where
      one : (i : ℕ) (m : Sent) → slice_get flight i ≡ Some m → Carries script (Root command t ∷ h) m
      one i (sent.Request token to at headers) e = let off = asker_differs i token to at headers e in rw off (all_here (Carries script h) flight i (sent.Request token to at headers) carried e)
      one i (sent.Answer receipt at) e = tt
      one i (sent.Notice notice) e = tt
