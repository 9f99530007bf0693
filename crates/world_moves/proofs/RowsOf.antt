-- The rows of all tables are those of the live tasks.
use Rattle.std.proofs.Common.{◌≡◌, ◌≢◌, ◌⊎◌, ◌+◌, ◌-◌, ◌<◌, ◌≤◌, ℕ, zero, suc, true, false, inl, inr, Bool, List, [], ◌∷◌, ◌++◌, map, filter, Option, Some, None, refl, sym, ap, subst, ◌∙◌, arith}
use Rattle.std.specs.Prelude.{All, find, slice_get, filter_map}
use Rattle.std.specs.List.{flat_map, range_with_len}
use Rattle.std.proofs.lemmas.List.{map-append}
use Rattle.std.proofs.lemmas.List.Elements.{All-head, All-tail, filter-append}
use Rattle.task_ids.specs.declared.task_id.TaskId.{TaskId}
use Rattle.task_ids.specs.declared.task_info.TaskInfo.{TaskInfo}
use Rattle.task_ids.specs.declared.cluster.Cluster.{Cluster}
use Rattle.task_table.specs.Table.{Table}
use Rattle.script_lang.specs.declared.command.Script.{Script}
use Rattle.task_events.specs.declared.event.Event.{Event}
use Rattle.task_events.specs.Asks.{up_to}
use Rattle.task_events.specs.Bans.{mark_of}
use Rattle.task_events.specs.Kinds.{action_of, description_of}
use Rattle.task_events.specs.Same.{same_task}
use Rattle.task_events.specs.Lawful.{Lawful}
use Rattle.task_events.specs.Tasks.{is_live, parent_of}
use Rattle.task_events.specs.TaskRows.{row_of, living_on, started_at, headers_of}
use Rattle.task_laws.proofs.Numbers.{number}
use Rattle.task_laws.proofs.Reach.{reach_facts}
use Rattle.task_laws.proofs.Same.{same_task_tells}
use Rattle.command_roots.specs.Roots.{rows_of, scripted}
use Rattle.tasks_api.specs.declared.filter.Filter.{Filter}
use Rattle.tasks_api.specs.Filters.{filter_matches, is_task}
use Rattle.tasks_api.specs.Lists.{shown}
use Rattle.world_moves.specs.declared.state.State.{State}
use Rattle.world_moves.specs.Cancelling.{IsRowOf, HasRows}
use Rattle.world_moves.specs.Describing.{IsDescribed, DescribesAll}
use Rattle.world_moves.specs.Ties.{IsTableOf, IsTableAt, IsTied}
use Rattle.world_moves.proofs.LiveRows.{rows_live, live_counted}

-- the two tests on ids are one
one_test : (t u : TaskId) → is_task t u ≡ same_task t u
unfolding same_task
one_test t u = refl

-- what is kept of lists end to end is what is kept of each
kept_of_each : {X Y : Type 0} (test : Y → Bool) (f : X → List Y) (xs : List X) → filter test (flat_map f xs) ≡ flat_map (λ x. filter test (f x)) xs
kept_of_each test f [] = refl
kept_of_each test f (x ∷ xs) = filter-append test (f x) (flat_map f xs) ∙ ap (λ ys. filter test (f x) ++ ys) (kept_of_each test f xs)

-- and so of what is made of them
made_of_each : {X Y Z : Type 0} (g : Y → Z) (f : X → List Y) (xs : List X) → map g (flat_map f xs) ≡ flat_map (λ x. map g (f x)) xs
made_of_each g f [] = refl
made_of_each g f (x ∷ xs) = map-append g (f x) (flat_map f xs) ∙ ap (λ ys. map g (f x) ++ ys) (made_of_each g f xs)

-- the numbers up to one, from the first on
one_further : (a n : ℕ) → range_with_len a (suc n) ≡ range_with_len a n ++ (a + n) ∷ []
one_further a zero = ap (λ k. k ∷ []) (omega arith)
one_further a (suc n) = ap (λ ks. a ∷ ks) (one_further (a + 1) n ∙ ap (λ k. range_with_len (a + 1) n ++ k ∷ []) (omega arith))

from_first : (n : ℕ) → range_with_len 1 n ≡ up_to n
from_first zero = refl
from_first (suc n) = one_further 1 n ∙ ap (λ k. range_with_len 1 n ++ k ∷ []) (omega arith) ∙ ap (λ ks. ks ++ suc n ∷ []) (from_first n)

-- a table, if there is one, has what is at its place, and there is one for each node
abbrev Fits : ℕ → (ℕ → List TaskInfo) → ℕ → Option Table → Type 0
Fits nodes at place None = nodes ≤ place
Fits nodes at place (Some table) = (table.live ≡ at (place + 1)) × (nodes ≤ place → table.live ≡ [])

-- the tables after the first fit from the next place on
later : (nodes : ℕ) (at : ℕ → List TaskInfo) (table : Table) (tables : List Table) (first : ℕ) → ((place : ℕ) → Fits nodes at (first + place) (slice_get (table ∷ tables) place))
    → (place : ℕ) → Fits nodes at (first + 1 + place) (slice_get tables place)
later nodes at table tables first fits place = subst (λ k. Fits nodes at k (slice_get tables place)) (omega arith) (fits (suc place))

-- so all of them have what is at the places of the nodes
by_nodes : (nodes : ℕ) (at : ℕ → List TaskInfo) (tables : List Table) (first n : ℕ) → nodes - first ≡ n → ((place : ℕ) → Fits nodes at (first + place) (slice_get tables place))
    → flat_map (λ table. table.live) tables ≡ flat_map at (range_with_len (first + 1) n)
by_nodes nodes at [] first zero e fits = refl
by_nodes nodes at [] first (suc n) e fits = let none = fits 0 in absurd (omega arith)
by_nodes nodes at (table ∷ tables) first zero e fits =
    ap (λ rows. rows ++ flat_map (λ table. table.live) tables) ((fits 0).1 (omega arith)) ∙ by_nodes nodes at tables (first + 1) 0 (omega arith) (later nodes at table tables first fits)
by_nodes nodes at (table ∷ tables) first (suc n) e fits =
    ap (λ rows. rows ++ flat_map (λ table. table.live) tables) ((fits 0).0 ∙ ap (λ k. at (k + 1)) (omega arith))
    ∙ ap (λ rows. at (first + 1) ++ rows) (by_nodes nodes at tables (first + 1) n (omega arith) (later nodes at table tables first fits))

module _ (script : Script) (h : List Event) where
  -- the row of a task as the past says it
  abbrev told : TaskId → Option TaskInfo
  told t = row_of (scripted script) t h

  -- is the row that a table has of it
  row_told : (row : TaskInfo) → IsRowOf h row → IsDescribed script h row → told row.id ≡ Some row
  row_told row is d = rw d.asked same_row
    where
      same_row : Some (record {
        id = row.id;
        action = action_of d.request;
        description = description_of d.request;
        start_ms = started_at row.id h;
        parent = parent_of row.id h;
        headers = headers_of (scripted script) row.id h;
        cancelled = mark_of row.id h;
      }) ≡ Some row
      same_row = rw (sym d.action, sym d.description, sym d.start, sym d.headers, sym is.0, sym is.1) refl

  all_told : (rows : List TaskInfo) → All (IsRowOf h) rows → All (IsDescribed script h) rows → filter_map told (map (λ row. row.id) rows) ≡ rows
  all_told [] are described = refl
  all_told (row ∷ rows) are described =
      let this = row_told row (All-head (IsRowOf h) row rows are) (All-head (IsDescribed script h) row rows described) in
      let rest = all_told rows (All-tail (IsRowOf h) row rows are) (All-tail (IsDescribed script h) row rows described) in
      rw (this, rest) refl

  -- and that row is found
  told_found : (t : TaskId) (rows : List TaskInfo) → All (IsRowOf h) rows → All (IsDescribed script h) rows → 0 < number (same_task t) (map (λ row. row.id) rows) → find (λ row. is_task t row.id) rows ≡ told t
  told_found t [] are described among = absurd (omega arith)
  told_found t (row ∷ rows) are described among = by_case (same_task_tells t row.id) (told_found t rows (All-tail (IsRowOf h) row rows are) (All-tail (IsDescribed script h) row rows described))
    where
      by_case : ((same_task t row.id ≡ true) × (t ≡ row.id)) ⊎ ((same_task t row.id ≡ false) × (t ≢ row.id)) → (0 < number (same_task t) (map (λ row. row.id) rows) → find (λ row. is_task t row.id) rows ≡ told t)
          → find (λ row. is_task t row.id) (row ∷ rows) ≡ told t
      by_case (inl (is_one, same)) rest = rw (one_test t row.id ∙ is_one) (sym (ap told same ∙ row_told row (All-head (IsRowOf h) row rows are) (All-head (IsDescribed script h) row rows described)))
      by_case (inr (differs, apart)) rest =
          let more = rw differs at among in
          rw (one_test t row.id ∙ differs) (rest (omega (arith, more)))

-- beyond the last node nothing lives
none_beyond : (cluster : Cluster) (n : ℕ) (h : List Event) (table : Table) → Lawful cluster h → IsTableOf cluster n h table → cluster.nodes < n → table.live ≡ []
none_beyond cluster n h table l i beyond = by_rows table.live (rows_live cluster n h table l i)
  where
    by_rows : (rows : List TaskInfo) → All (λ row. (row.id.node ≡ n) × (is_live row.id h ≡ true)) rows → rows ≡ []
    by_rows [] each = refl
    by_rows (row ∷ rows) each =
        let first = All-head (λ row. (row.id.node ≡ n) × (is_live row.id h ≡ true)) row rows each in
        let within = (reach_facts cluster h l).live_in row.id first.1 in
        absurd (omega (arith, first.0))

module _ (s : State) (tied : IsTied s) where
  -- the rows of a node's live tasks
  abbrev rows_at : ℕ → List TaskInfo
  rows_at node = filter_map (told s.script.now s.history) (living_on node s.history)

  fits : (place : ℕ) (o : Option Table) → IsTableAt s.cluster place s.history o → HasRows s.history o → DescribesAll s.script.now s.history o → Fits s.cluster.nodes rows_at place o
  fits place None listed are described = listed
  fits place (Some table) listed are described = (
    sym (all_told s.script.now s.history table.live are described) ∙ ap (filter_map (told s.script.now s.history)) listed.lists,
    λ beyond. none_beyond s.cluster (place + 1) s.history table tied.ties.lawful listed (omega arith),
  )

  -- the tables list the live tasks node by node
  all_rows : flat_map (λ table. table.live) s.tables.items ≡ rows_of s.cluster s.script.now s.history
  all_rows =
      by_nodes s.cluster.nodes rows_at s.tables.items 0 s.cluster.nodes (omega arith)
      (λ place. subst (λ k. Fits s.cluster.nodes rows_at k (slice_get s.tables.items place)) (omega arith) (fits place (slice_get s.tables.items place) (tied.ties.listed place) (tied.cancels.rows_are place) (tied.tells.rows_are place)))
      ∙ ap (flat_map rows_at) (from_first s.cluster.nodes)

  -- the table of a live task's node has the row of the task
  pub row_at_node : (t : TaskId) → is_live t s.history ≡ true → (table : Table) → slice_get s.tables.items (t.node - 1) ≡ Some table → find (λ row. is_task t row.id) table.live ≡ row_of (scripted s.script.now) t s.history
  row_at_node t live table at =
      let place = t.node - 1 in
      let listed = subst (λ o. IsTableAt s.cluster place s.history o) at (tied.ties.listed place) in
      let low = t.node_in_range.0 in
      let node : t.node ≡ place + 1 = omega (arith, low) in
      told_found s.script.now s.history t table.live (subst (λ o. HasRows s.history o) at (tied.cancels.rows_are place)) (subst (λ o. DescribesAll s.script.now s.history o) at (tied.tells.rows_are place))
      (live_counted s.cluster (place + 1) s.history table tied.ties.lawful listed t node live)

  -- the rows that a filter lets through, table by table, are those of the live tasks
  pub all_shown : (wanted : Filter) → flat_map (λ table. shown wanted table.live) s.tables.items ≡ shown wanted (rows_of s.cluster s.script.now s.history)
  all_shown wanted = sym (kept_of_each (λ row. filter_matches wanted row) (λ table. table.live) s.tables.items) ∙ ap (shown wanted) all_rows

  -- and so are their ids
  pub all_ids : (wanted : Filter) → flat_map (λ table. map (λ row. row.id) (shown wanted table.live)) s.tables.items ≡ map (λ row. row.id) (shown wanted (rows_of s.cluster s.script.now s.history))
  all_ids wanted = sym (made_of_each (λ row. row.id) (λ table. shown wanted table.live) s.tables.items) ∙ ap (map (λ row. row.id)) (all_shown wanted)
