-- The rows of the tables, and the root of each command, after a task has started.
use Rattle.std.proofs.Common.{◌≡◌, ◌==◌, ◌+◌, ◌-◌, ◌<◌, ◌≤◌, ℕ, Bool, true, false, cond, List, [], ◌∷◌, Option, Some, None, refl, sym, ap, subst, ◌∙◌, filter, reverse, map, arith}
use Rattle.std.specs.Prelude.{slice_get, All, get_or}
use Rattle.std.specs.BTreeSet.{BTreeSet}
use Rattle.std.specs.FinMap.{FinMap}
use Rattle.std.specs.Ordering.{nat_cmp}
use Rattle.std.specs.BTreeMap.{is_at}
use Rattle.std.proofs.lemmas.Bool.Decides.{nat_tests}
use Rattle.std.proofs.lemmas.List.Elements.{All-nil, All-cons, All-head, All-tail, All-push, All-filter}
use Rattle.std.proofs.lemmas.List.Sorted.{All-permutation, IsPermutation-reverse}
use Rattle.task_ids.specs.declared.task_id.TaskId.{TaskId}
use Rattle.task_ids.specs.declared.task_info.NewTask.{NewTask}
use Rattle.task_ids.specs.declared.task_info.TaskInfo.{TaskInfo}
use Rattle.task_ids.specs.declared.cluster.Cluster.{Cluster}
use Rattle.task_ids.specs.Headers.{no_headers}
use Rattle.task_ids.specs.TaskIdOrder.{task_id_cmp}
use Rattle.task_table.specs.Rows.{row_for}
use Rattle.task_table.specs.Table.{Table, with_task}
use Rattle.cancel_core.specs.Cancellations.{Cancellations}
use Rattle.task_events.specs.declared.event.Event.{Event}
use Rattle.task_events.specs.Requests.{Scripted}
use Rattle.task_events.specs.declared.event.Event.TheVariants.{Root, Put}
use Rattle.task_events.specs.Same.{same_task}
use Rattle.task_events.specs.Tasks.{is_live, live_tasks, last_number, parent_of}
use Rattle.task_events.specs.Bans.{mark_of}
use Rattle.task_events.specs.Lawful.{Lawful}
use Rattle.task_laws.proofs.Numbers.{number}
use Rattle.task_laws.proofs.Living.{living_facts}
use Rattle.task_laws.proofs.Same.{same_tests}
use Rattle.task_laws.proofs.Stops.{stop_facts}
use Rattle.node_parts.specs.declared.listing.Listing.{Listing}
use Rattle.command_roots.specs.Roots.{root_of}
use Rattle.world_moves.specs.Cancelling.{Cancelling, HasRows, IsRowOf}
use Rattle.world_moves.specs.Ties.{IsTableAt, IsTableOf}
use Rattle.world_moves.proofs.AtPlace.{set_at}
use Rattle.world_moves.proofs.Tables.{IsPutOn, table_of, put_takes}
use Rattle.world_moves.proofs.UnbornTasks.{unborn}
use Rattle.world_moves.proofs.CancelsUntouched.{noted_with}
use Rattle.world_moves.proofs.QuietListings.{put_listings, quiet_listings}

-- what passes no test
one_fails : {X : Type 0} (test : X → Bool) (b : Bool) (x : X) (xs : List X) → test x ≡ b → cond b 1 0 + number test xs ≡ 0 → (number test xs ≡ 0 → All (λ y. test y ≡ false) xs) → All (λ y. test y ≡ false) (x ∷ xs)
one_fails test true x xs is e later = absurd (omega arith)
one_fails test false x xs is e later = All-cons (λ y. test y ≡ false) x xs is (later (let counted : 0 + number test xs ≡ 0 = e in omega (arith, counted)))

none_passes : {X : Type 0} (test : X → Bool) (xs : List X) → number test xs ≡ 0 → All (λ x. test x ≡ false) xs
none_passes test [] e = All-nil (λ x. test x ≡ false)
none_passes test (x ∷ xs) e = one_fails test (test x) x xs refl e (none_passes test xs)

-- what is so of each image
all_mapped : {X Y : Type 0} (P : Y → Type 0) (f : X → Y) (xs : List X) → All P (map f xs) → All (λ x. P (f x)) xs
all_mapped P f [] a = All-nil (λ x. P (f x))
all_mapped P f (x ∷ xs) a = All-cons (λ x. P (f x)) x xs (All-head P (f x) (map f xs) a) (all_mapped P f xs (All-tail P (f x) (map f xs) a))

-- the order of numbers tells them apart
is_at_number : (n k : ℕ) → is_at (nat_cmp n) k ≡ (k == n)
is_at_number n k = grind (arith, nat_tests)

-- The event starts the task for this parent, and says nothing new of the parent or the mark of another.
record IsStartFor (t : TaskId) (parent : Option TaskId) (e : Event) (h : List Event) : Type 0 where
  own : parent_of t (e ∷ h) ≡ parent
  others : (u : TaskId) → same_task t u ≡ false → parent_of u (e ∷ h) ≡ parent_of u h
  marks : (u : TaskId) → mark_of u (e ∷ h) ≡ mark_of u h

module _ (cluster : Cluster) (t : TaskId) (h : List Event) (lawful : Lawful cluster h) (new : last_number t.node h < t.number) where
  -- whatever the commands say
  nothing_said : Scripted
  nothing_said = record { root = λ k h. None; carried = λ k. no_headers; clears = λ k h. None }

  not_live : is_live t h ≡ false
  not_live = ap (λ f. f.live) (unborn cluster t nothing_said h lawful new)

  no_mark : mark_of t h ≡ None
  no_mark = ap (λ f. f.mark) (unborn cluster t nothing_said h lawful new)

  no_parent : parent_of t h ≡ None
  no_parent = ap (λ f. f.parent) (unborn cluster t nothing_said h lawful new)

  -- each live task is another
  others_live : All (λ u. same_task t u ≡ false) (live_tasks h)
  others_live = none_passes (same_task t) (live_tasks h) ((living_facts cluster h lawful).once t ∙ ap (λ b. cond b 1 0) not_live)

  pub rows_differ : (n : ℕ) (table : Table) → IsTableOf cluster n h table → All (λ (row : TaskInfo). same_task t row.id ≡ false) table.live
  rows_differ n table i =
      let here : List TaskId = filter (λ u. n == u.node) (live_tasks h) in
      let differ = All-permutation (λ u. same_task t u ≡ false) here (reverse here) (IsPermutation-reverse here) (All-filter (λ u. n == u.node) (λ u. same_task t u ≡ false) (live_tasks h) others_live) in
      all_mapped (λ u. same_task t u ≡ false) (λ (row : TaskInfo). row.id) table.live (subst (All (λ u. same_task t u ≡ false)) (sym i.lists) differ)

  module _ (parent : Option TaskId) (e : Event) (starts : IsStartFor t parent e h) where
    row_stays : (row : TaskInfo) → same_task t row.id ≡ false → IsRowOf h row → IsRowOf (e ∷ h) row
    row_stays row differs i = (i.0 ∙ sym (starts.others row.id differs), i.1 ∙ sym (starts.marks row.id))

    rows_stay : (n : ℕ) (table : Table) → IsTableOf cluster n h table → All (IsRowOf h) table.live → All (IsRowOf (e ∷ h)) table.live
    rows_stay n table i rows k d l = row_stays (get_or table.live k d) (rows_differ n table i k d l) (rows k d l)

    rows_at : (place : ℕ) (o : Option Table) → IsTableAt cluster place h o → HasRows h o → HasRows (e ∷ h) o
    rows_at place None i rows = tt
    rows_at place (Some table) i rows = rows_stay (place + 1) table i rows

    new_row : (task : NewTask) → task.parent ≡ parent → IsRowOf (e ∷ h) (row_for t task)
    new_row task is = (is ∙ sym starts.own, sym (starts.marks t ∙ no_mark))

module _ (cluster : Cluster) (h : List Event) (tables : List Table) (listed : (place : ℕ) → IsTableAt cluster place h (slice_get tables place)) (n : ℕ) (low : 1 ≤ n) (high : n ≤ cluster.nodes)
    (t : TaskId) (task : NewTask) (after : List Table) (put : IsPutOn tables n t task after) (lawful : Lawful cluster h) where
  pub is_new : last_number t.node h < t.number
  is_new = let next = (put_takes cluster h tables listed n low high t task after put lawful).next in omega arith

  put_rows : (parent : Option TaskId) (e : Event) → IsStartFor t parent e h → task.parent ≡ parent → ((place : ℕ) → HasRows h (slice_get tables place)) → (place : ℕ) → HasRows (e ∷ h) (slice_get after place)
  put_rows parent e starts is rows =
      let x = table_of cluster h tables listed n low high in
      let pushed = All-push (IsRowOf (e ∷ h)) x.0.live (row_for t task) (rows_stay cluster t h lawful is_new parent e starts n x.0 x.2 (subst (HasRows h) x.1 (rows (n - 1)))) (new_row cluster t h lawful is_new parent e starts task is) in
      subst (λ (ts : List Table). (place : ℕ) → HasRows (e ∷ h) (slice_get ts place)) (sym (put.row x.0 x.1))
      (set_at (λ place o. IsTableAt cluster place h o × HasRows h o) (λ place o. HasRows (e ∷ h) o) tables (n - 1) x.0 (with_task x.0 t task) x.1 (λ place. (listed place, rows place)) pushed
      (λ place apart i. rows_at cluster t h lawful is_new parent e starts place _ i.0 i.1))

  module _ (waiting : TaskId → List ℕ) (roots : ℕ → Option TaskId) (bans : List (FinMap task_id_cmp ℕ)) (cores : List Cancellations) (listings : BTreeSet Listing)
      (known : Cancelling cluster waiting h tables roots bans cores listings) where
    pub noted_put : (p : TaskId) (k : ℕ) → task.parent ≡ Some p → Cancelling cluster waiting (Put t p k ∷ h) after roots bans cores listings
    noted_put p k is = noted_with cluster waiting h tables roots bans cores listings known (Put t p k) after roots refl (put_listings t p k h (stop_facts cluster h lawful) (no_parent cluster t h lawful is_new)) (put_rows (Some p) (Put t p k) starts is known.rows_are) known.roots_are
      where
        starts : IsStartFor t (Some p) (Put t p k) h
        starts = record { own = grind (arith, same_tests); others = λ u differs. grind (arith, same_tests); marks = λ u. refl }

    pub noted_root : (command : ℕ) (started : ℕ → Option TaskId) → task.parent ≡ None → ((k : ℕ) → started k ≡ cond (is_at (nat_cmp command) k) (Some t) (roots k))
        → Cancelling cluster waiting (Root command t ∷ h) after started bans cores listings
    noted_root command started is changed = noted_with cluster waiting h tables roots bans cores listings known (Root command t) after started refl (quiet_listings (Root command t) h refl) (put_rows None (Root command t) starts is known.rows_are) roots_are
      where
        starts : IsStartFor t None (Root command t) h
        starts = record { own = no_parent cluster t h lawful is_new; others = λ u differs. refl; marks = λ u. refl }

        roots_are : (k : ℕ) → started k ≡ root_of k (Root command t ∷ h)
        roots_are k = changed k ∙ ap (λ b. cond b (Some t) (roots k)) (is_at_number command k) ∙ ap (cond (k == command) (Some t)) (known.roots_are k)
