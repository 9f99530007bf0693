-- The rows of a node's table are those of its live tasks.
use Rattle.std.proofs.Common.{◌≡◌, ◌≢◌, ◌⊎◌, ◌<◌, ℕ, zero, suc, Bool, true, false, cond, List, [], ◌∷◌, length, map, filter, reverse, get_or, Some, refl, sym, ap, ◌∙◌, inl, inr, arith}
use Rattle.std.specs.Prelude.{◌==◌, All, Any, slice_get}
use Rattle.std.proofs.lemmas.Bool.Decides.{nat_tests}
use Rattle.std.proofs.lemmas.List.{reverse-append}
use Rattle.std.proofs.lemmas.List.Elements.{All-nil, All-cons}
use Rattle.task_ids.specs.declared.task_id.TaskId.{TaskId}
use Rattle.task_ids.specs.declared.task_info.TaskInfo.{TaskInfo}
use Rattle.task_ids.specs.declared.cluster.Cluster.{Cluster}
use Rattle.task_table.specs.Table.{Table}
use Rattle.task_events.specs.declared.event.Event.{Event}
use Rattle.task_events.specs.Same.{same_task}
use Rattle.task_events.specs.Tasks.{is_live, live_tasks}
use Rattle.task_events.specs.Lawful.{Lawful}
use Rattle.task_laws.proofs.Living.{living_facts}
use Rattle.task_laws.proofs.Numbers.{number, number-append}
use Rattle.task_laws.proofs.Same.{same_task_tells, same_tests}
use Rattle.world_moves.specs.Ties.{IsTableOf}

-- what is read at a place within
pub read_at : {X : Type 0} (xs : List X) (k : ℕ) (y : X) → k < length xs → y ≡ get_or xs k y → slice_get xs k ≡ Some y
read_at [] k y i e = absurd (omega arith)
read_at (x ∷ xs) zero y i e = ap Some (sym e)
read_at (x ∷ xs) (suc k) y i e = read_at xs k y (omega arith) e

module _ (u : TaskId) where
  turned : (ts : List TaskId) → number (same_task u) (reverse ts) ≡ number (same_task u) ts
  turned [] = refl
  turned (t ∷ ts) =
      let e = ap (number (same_task u)) (reverse-append (t ∷ []) ts) in
      let f = number-append (same_task u) (reverse ts) (t ∷ []) in
      let g = turned ts in
      e ∙ f ∙ omega arith

  on_node : (n : ℕ) (ts : List TaskId) → number (same_task u) (filter (λ t. n == t.node) ts) ≡ cond (n == u.node) (number (same_task u) ts) 0
  on_node n [] = grind (arith, nat_tests)
  on_node n (t ∷ ts) = by_case (same_task_tells u t) (on_node n ts)
    where
      by_case : ((same_task u t ≡ true) × (u ≡ t)) ⊎ ((same_task u t ≡ false) × (u ≢ t)) → number (same_task u) (filter (λ t. n == t.node) ts) ≡ cond (n == u.node) (number (same_task u) ts) 0
          → number (same_task u) (filter (λ t. n == t.node) (t ∷ ts)) ≡ cond (n == u.node) (number (same_task u) (t ∷ ts)) 0
      by_case (inl (is_one, same)) rest = let node = ap (λ (x : TaskId). x.node) same in grind (arith, nat_tests, rest)
      by_case (inr (differs, apart)) rest = grind (arith, nat_tests, rest)

  -- how many rows are of the task
  pub rows_of : (cluster : Cluster) (n : ℕ) (h : List Event) (table : Table) → Lawful cluster h → IsTableOf cluster n h table
      → number (same_task u) (map (λ row. row.id) table.live) ≡ cond (n == u.node) (cond (is_live u h) 1 0) 0
  rows_of cluster n h table l i =
      ap (number (same_task u)) i.lists ∙ turned (filter (λ t. n == t.node) (live_tasks h)) ∙ on_node n (live_tasks h) ∙ ap (λ k. cond (n == u.node) k 0) ((living_facts cluster h l).once u)

-- what holds of each task that is counted among the rows holds of each row's
members : (Q : TaskId → Type 0) (rows : List TaskInfo) → ((u : TaskId) → 0 < number (same_task u) (map (λ row. row.id) rows) → Q u) → All (λ row. Q row.id) rows
members Q [] each = All-nil (λ row. Q row.id)
members Q (row ∷ rows) each =
    let mine : same_task row.id row.id ≡ true = grind (arith, same_tests) in
    All-cons (λ row. Q row.id) row rows (each row.id (rw mine (omega arith))) (members Q rows (λ u i. each u (omega arith)))

-- a task that is counted among the rows has one
pub row_among : (u : TaskId) (rows : List TaskInfo) → 0 < number (same_task u) (map (λ row. row.id) rows) → Any (λ row. row.id ≡ u) rows
row_among u [] i = absurd (omega arith)
row_among u (row ∷ rows) i = by_case (same_task_tells u row.id) (row_among u rows)
  where
    by_case : ((same_task u row.id ≡ true) × (u ≡ row.id)) ⊎ ((same_task u row.id ≡ false) × (u ≢ row.id)) → (0 < number (same_task u) (map (λ row. row.id) rows) → Any (λ row. row.id ≡ u) rows) → Any (λ row. row.id ≡ u) (row ∷ rows)
    by_case (inl (is_one, same)) among = (0, row, omega arith, refl, sym same)
    by_case (inr (differs, apart)) among =
        let more = rw differs at i in
        let rest = among (omega arith) in
        let low = rest.2 in
        (suc rest.0, rest.1, omega arith, rest.3, rest.4)

counted_here : (n m k : ℕ) (b : Bool) → k ≡ cond (n == m) (cond b 1 0) 0 → 0 < k → (m ≡ n) × (b ≡ true)
counted_here n m k true e i = (grind (arith, nat_tests), refl)
counted_here n m k false e i = absurd (grind (arith, nat_tests))

module _ (cluster : Cluster) (n : ℕ) (h : List Event) (table : Table) (l : Lawful cluster h) (i : IsTableOf cluster n h table) where
  -- each row is that of a live task of the node
  pub rows_live : All (λ row. (row.id.node ≡ n) × (is_live row.id h ≡ true)) table.live
  rows_live = members (λ u. (u.node ≡ n) × (is_live u h ≡ true)) table.live (λ u many. counted_here n u.node _ (is_live u h) (rows_of u cluster n h table l i) many)

  -- and each of them is counted
  pub live_counted : (u : TaskId) → u.node ≡ n → is_live u h ≡ true → 0 < number (same_task u) (map (λ row. row.id) table.live)
  live_counted u node live = let many = rows_of u cluster n h table l i in grind (arith, nat_tests)

  pub row_of_task : (u : TaskId) → u.node ≡ n → is_live u h ≡ true → Any (λ row. row.id ≡ u) table.live
  row_of_task u node live = row_among u table.live (live_counted u node live)
