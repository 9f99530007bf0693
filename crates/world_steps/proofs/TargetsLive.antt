-- The tasks that a filter shows are live, and each stands once among them: so a cancel can name them.
use Rattle.std.proofs.Common.{◌≡◌, ◌⊎◌, ◌+◌, ◌≤◌, ℕ, zero, suc, Bool, false, cond, List, [], ◌∷◌, ◌++◌, Option, Some, None, map, reverse, flat_map, refl, ap, ◌∙◌, inl, inr, append-nil, arith}
use Rattle.std.proofs.lemmas.List.Concat.{flat_map-append}
use Rattle.std.proofs.lemmas.List.{map-append}
use Rattle.std.proofs.lemmas.Bool.Decides.{nat_tests}
use Rattle.std.specs.Prelude.{filter, filter_map, nat_le, ◌==◌}
use Rattle.std.specs.List.{list_any, cons_option}
use mathlib.Core.List.{reverse-cons}
use Rattle.task_ids.specs.declared.task_id.TaskId.{TaskId}
use Rattle.task_ids.specs.declared.task_info.TaskInfo.{TaskInfo}
use Rattle.task_ids.specs.declared.cluster.Cluster.{Cluster}
use Rattle.task_events.specs.declared.event.Event.{Event}
use Rattle.task_events.specs.Same.{same_task}
use Rattle.task_events.specs.Asks.{up_to}
use Rattle.task_events.specs.Tasks.{is_live, live_tasks}
use Rattle.task_events.specs.TaskRows.{row_of, living_on, live_rows}
use Rattle.task_events.specs.Cancels.{is_named}
use Rattle.task_events.specs.Requests.{Scripted, request_of}
use Rattle.task_events.specs.Lawful.{Lawful}
use Rattle.task_laws.proofs.Same.{same_tests}
use Rattle.task_laws.proofs.Numbers.{number, number-append}
use Rattle.task_laws.proofs.Living.{living_facts}
use Rattle.tasks_api.specs.declared.filter.Filter.{Filter}
use Rattle.tasks_api.specs.Filters.{filter_matches}
use Rattle.tasks_api.specs.Lists.{shown}
use Rattle.script_lang.specs.declared.command.Script.{Script}
use Rattle.command_roots.specs.Roots.{rows_of, scripted}
use Rattle.world_steps.specs.Naming.{CanName}

-- the other way round as many pass
number-reverse : {X : Type 0} (test : X → Bool) (xs : List X) → number test (reverse xs) ≡ number test xs
number-reverse test [] = refl
number-reverse test (x ∷ xs) =
    let back = ap (number test) (reverse-cons x xs) in
    let parts = number-append test (reverse xs) (x ∷ []) in
    let rest = number-reverse test xs in
    omega arith

-- a value is there or not
option_cases : {X : Type 0} (o : Option X) → (o ≡ None) ⊎ ((x : X) × (o ≡ Some x))
option_cases None = inl refl
option_cases (Some x) = inr (x, refl)

abbrev ids_of : List TaskInfo → List TaskId
ids_of rows = map (λ row. row.id) rows

-- the ids of the rows that are picked are among the ids of all
number-picked : (t : TaskId) (pick : TaskInfo → Bool) (rows : List TaskInfo) → number (same_task t) (ids_of (filter pick rows)) ≤ number (same_task t) (ids_of rows)
number-picked t pick [] = omega arith
number-picked t pick (row ∷ rows) = let rest = number-picked t pick rows in grind arith

-- the rows of one node more
number-flat : (test : TaskId → Bool) (rows_at : ℕ → List TaskInfo) (n : ℕ) (ns : List ℕ) → number test (ids_of (flat_map rows_at (ns ++ n ∷ []))) ≡ number test (ids_of (flat_map rows_at ns)) + number test (ids_of (rows_at n))
number-flat test rows_at n ns = grind (arith, flat_map-append rows_at ns (n ∷ []), append-nil (rows_at n), map-append (λ (row : TaskInfo). row.id) (flat_map rows_at ns) (rows_at n), number-append test (ids_of (flat_map rows_at ns)) (ids_of (rows_at n)))

module _ (t : TaskId) (h : List Event) where
  -- a task's row has its id
  number-row : (said : Scripted) (u : TaskId) (rows : List TaskInfo) → number (same_task t) (ids_of (cons_option (row_of said u h) rows)) ≤ cond (same_task t u) 1 0 + number (same_task t) (ids_of rows)
  number-row said u rows = grind (arith, option_cases (request_of said u h))

  number-rows : (said : Scripted) (ts : List TaskId) → number (same_task t) (ids_of (filter_map (λ u. row_of said u h) ts)) ≤ number (same_task t) ts
  number-rows said [] = omega arith
  number-rows said (u ∷ ts) =
      let first = number-row said u (filter_map (λ u. row_of said u h) ts) in
      let rest = number-rows said ts in
      omega arith

  -- a task is among those of its own node alone
  number-there : (n : ℕ) (ts : List TaskId) → number (same_task t) (filter (λ u. n == u.node) ts) ≡ cond (n == t.node) (number (same_task t) ts) 0
  number-there n [] = grind arith
  number-there n (u ∷ ts) = let rest = number-there n ts in grind (arith, same_tests)

  number-living : (n : ℕ) → number (same_task t) (living_on n h) ≡ cond (n == t.node) (number (same_task t) (live_tasks h)) 0
  number-living n = number-reverse (same_task t) (filter (λ u. n == u.node) (live_tasks h)) ∙ number-there n (live_tasks h)

  -- each node is asked once
  number-live_rows : (said : Scripted) (m : ℕ) → number (same_task t) (ids_of (live_rows m said h)) ≤ cond (nat_le t.node m) (number (same_task t) (live_tasks h)) 0
  number-live_rows said zero = omega arith
  number-live_rows said (suc m) =
      let before = number-live_rows said m in
      let split = number-flat (same_task t) (λ n. filter_map (λ u. row_of said u h) (living_on n h)) (suc m) (up_to m) in
      let last = number-rows said (living_on (suc m) h) in
      let there = number-living (suc m) in
      grind (arith, nat_tests)

-- what a filter shows is live, and each task is shown once
pub targets_live : (cluster : Cluster) (script : Script) (wanted : Filter) (h : List Event) → Lawful cluster h → (t : TaskId) → number (same_task t) (map (λ row. row.id) (shown wanted (rows_of cluster script h))) ≤ cond (is_live t h) 1 0
targets_live cluster script wanted h lawful t =
    let picked = number-picked t (λ row. filter_matches wanted row) (rows_of cluster script h) in
    let all = number-live_rows t h (scripted script) cluster.nodes in
    let once = (living_facts cluster h lawful).once t in
    grind arith

-- a task that is not counted is not among them
not_among : (t : TaskId) (ts : List TaskId) → number (same_task t) ts ≤ 0 → list_any (same_task t) ts ≡ false
not_among t [] l = refl
not_among t (u ∷ ts) l = let rest = not_among t ts in grind arith

-- live tasks that stand once each, and that the cancel has not named, it can name
pub can_name : (c : ℕ) (h : List Event) → ((t : TaskId) → is_named c t h ≡ false) → (ts : List TaskId) → ((t : TaskId) → number (same_task t) ts ≤ cond (is_live t h) 1 0) → CanName c ts h
can_name c h fresh [] each = tt
can_name c h fresh (t ∷ ts) each = grind (arith, same_tests, fresh t, each t, not_among t ts, can_name c h fresh ts)
