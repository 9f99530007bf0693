-- What a node's table lists after a task has left.
use Rattle.std.proofs.Common.{◌≡◌, ◌≢◌, ◌⊎◌, ◌==◌, ℕ, ◌+◌, ◌-◌, ◌≤◌, Bool, true, false, not, cond, List, [], ◌∷◌, ◌++◌, Option, Some, None, refl, sym, ap, ◌∙◌, inl, inr, filter, reverse, map, arith, subst}
use Rattle.std.specs.Prelude.{slice_get, slice_set}
use Rattle.std.proofs.lemmas.Bool.Decides.{nat_tests}
use Rattle.std.proofs.lemmas.Bool.{cases_eq}
use Rattle.std.proofs.lemmas.List.{reverse-append}
use Rattle.std.proofs.lemmas.List.Elements.{filter-append}
use Rattle.task_ids.specs.declared.task_id.TaskId.{TaskId}
use Rattle.task_ids.specs.declared.task_info.TaskInfo.{TaskInfo}
use Rattle.task_ids.specs.declared.cluster.Cluster.{Cluster}
use Rattle.task_table.specs.Table.{Table, without_task}
use Rattle.task_table.specs.Rows.{without_number}
use Rattle.task_events.specs.declared.event.Event.{Event}
use Rattle.task_events.specs.Same.{same_task}
use Rattle.task_events.specs.Tasks.{live_tasks, last_number}
use Rattle.task_laws.proofs.Same.{same_tests}
use Rattle.world_moves.specs.Ties.{IsTableAt, IsTableOf}
use Rattle.world_moves.proofs.ByPlace.{set_same, set_other}

ids_without : (number : ℕ) (rows : List TaskInfo) → map (λ row. row.id) (without_number number rows) ≡ filter (λ id. not (id.number == number)) (map (λ row. row.id) rows)
ids_without number [] = refl
ids_without number (row ∷ rows) = here (not (row.id.number == number)) (ids_without number rows)
  where
    here : (b : Bool) → map (λ row. row.id) (without_number number rows) ≡ filter (λ id. not (id.number == number)) (map (λ row. row.id) rows)
        → map (λ (r : TaskInfo). r.id) (cond b (row ∷ without_number number rows) (without_number number rows)) ≡ cond b (row.id ∷ filter (λ id. not (id.number == number)) (map (λ row. row.id) rows)) (filter (λ id. not (id.number == number)) (map (λ row. row.id) rows))
    here true e = ap (λ ids. row.id ∷ ids) e
    here false e = e

filter_turned : (test : TaskId → Bool) (ts : List TaskId) → filter test (reverse ts) ≡ reverse (filter test ts)
filter_turned test [] = refl
filter_turned test (t ∷ ts) =
    ap (filter test) (reverse-append (t ∷ []) ts) ∙ filter-append test (reverse ts) (t ∷ []) ∙ ap (λ xs. xs ++ filter test (t ∷ [])) (filter_turned test ts) ∙ here (test t)
  where
    nothing : (xs : List TaskId) → xs ++ [] ≡ xs
    nothing [] = refl
    nothing (x ∷ xs) = ap (λ later. x ∷ later) (nothing xs)

    here : (b : Bool) → reverse (filter test ts) ++ cond b (t ∷ []) [] ≡ reverse (cond b (t ∷ filter test ts) (filter test ts))
    here true = sym (reverse-append (t ∷ []) (filter test ts))
    here false = nothing (reverse (filter test ts))

flip : (a b : ℕ) → (a == b) ≡ (b == a)
flip a b = grind (arith, nat_tests)

-- on one node the numbers tell tasks apart
number_tells : (t u : TaskId) → (t.node == u.node) ≡ true → (u.number == t.number) ≡ same_task t u
unfolding same_task
number_tells t u e = rw e (flip u.number t.number)

pub node_tells : (t u : TaskId) → (t.node == u.node) ≡ false → same_task t u ≡ false
unfolding same_task
node_tells t u e = rw e refl

module _ (t : TaskId) where
  -- on its node
  left_here : (ts : List TaskId) → filter (λ u. not (u.number == t.number)) (filter (λ u. t.node == u.node) ts) ≡ filter (λ u. t.node == u.node) (filter (λ u. not (same_task t u)) ts)
  left_here [] = refl
  left_here (u ∷ ts) = here (t.node == u.node) (same_task t u) refl refl (left_here ts)
    where
      here : (b c : Bool) → (t.node == u.node) ≡ b → same_task t u ≡ c
          → filter (λ u. not (u.number == t.number)) (filter (λ u. t.node == u.node) ts) ≡ filter (λ u. t.node == u.node) (filter (λ u. not (same_task t u)) ts)
          → filter (λ u. not (u.number == t.number)) (cond b (u ∷ filter (λ u. t.node == u.node) ts) (filter (λ u. t.node == u.node) ts))
          ≡ filter (λ u. t.node == u.node) (cond (not c) (u ∷ filter (λ u. not (same_task t u)) ts) (filter (λ u. not (same_task t u)) ts))
      here true true n s rest = let other = number_tells t u n ∙ s in rw other rest
      here true false n s rest = let other = number_tells t u n ∙ s in rw other (rw n (ap (λ us. u ∷ us) rest))
      here false true n s rest = absurd (let off = sym s ∙ node_tells t u n in cc)
      here false false n s rest = rw n rest

  -- on another node
  left_there : (n : ℕ) → n ≢ t.node → (ts : List TaskId) → filter (λ u. n == u.node) ts ≡ filter (λ u. n == u.node) (filter (λ u. not (same_task t u)) ts)
  left_there n other [] = refl
  left_there n other (u ∷ ts) = here (same_task t u) refl (left_there n other ts)
    where
      here : (c : Bool) → same_task t u ≡ c → filter (λ u. n == u.node) ts ≡ filter (λ u. n == u.node) (filter (λ u. not (same_task t u)) ts)
          → cond (n == u.node) (u ∷ filter (λ u. n == u.node) ts) (filter (λ u. n == u.node) ts) ≡ filter (λ u. n == u.node) (cond (not c) (u ∷ filter (λ u. not (same_task t u)) ts) (filter (λ u. not (same_task t u)) ts))
      here true s rest = let off : (n == u.node) ≡ false = grind (arith, same_tests) in rw off rest
      here false s rest = ap (λ us. cond (n == u.node) (u ∷ us) us) rest

  -- the event takes the task from the live ones, and no node gives a number
  module _ (cluster : Cluster) (e : Event) (h : List Event) (left : live_tasks (e ∷ h) ≡ filter (λ u. not (same_task t u)) (live_tasks h)) (last : (n : ℕ) → last_number n (e ∷ h) ≡ last_number n h) where
    ended_here : (table : Table) → IsTableOf cluster t.node h table → IsTableOf cluster t.node (e ∷ h) (without_task table t.number)
    ended_here table i = record {
      node_is = i.node_is;
      slots_are = i.slots_are;
      last_is = i.last_is ∙ sym (last t.node);
      lists = ids_without t.number table.live ∙ ap (filter (λ id. not (id.number == t.number))) i.lists
          ∙ filter_turned (λ id. not (id.number == t.number)) (filter (λ u. t.node == u.node) (live_tasks h)) ∙ ap reverse (left_here (live_tasks h))
          ∙ ap (λ ts. reverse (filter (λ u. t.node == u.node) ts)) (sym left);
    }

    ended_there : (place : ℕ) → place + 1 ≢ t.node → (o : Option Table) → IsTableAt cluster place h o → IsTableAt cluster place (e ∷ h) o
    ended_there place other None i = i
    ended_there place other (Some table) i = record {
      node_is = i.node_is;
      slots_are = i.slots_are;
      last_is = i.last_is ∙ sym (last (place + 1));
      lists = i.lists ∙ ap reverse (left_there (place + 1) other (live_tasks h)) ∙ ap (λ ts. reverse (filter (λ u. (place + 1) == u.node) ts)) (sym left);
    }

    pub end_listed : (tables : List Table) (table : Table) → ((place : ℕ) → IsTableAt cluster place h (slice_get tables place)) → 1 ≤ t.node → slice_get tables (t.node - 1) ≡ Some table
        → (place : ℕ) → IsTableAt cluster place (e ∷ h) (slice_get (slice_set tables (t.node - 1) (without_task table t.number)) place)
    end_listed tables table listed low here place = by_case (cases_eq (t.node - 1) place)
      where
        by_case : (t.node - 1 ≡ place) ⊎ (t.node - 1 ≢ place) → IsTableAt cluster place (e ∷ h) (slice_get (slice_set tables (t.node - 1) (without_task table t.number)) place)
        by_case (inl same) =
            let back : place + 1 ≡ t.node = omega arith in
            let is_of = subst (λ n. IsTableOf cluster n h table) back (subst (λ o. IsTableAt cluster place h o) (ap (slice_get tables) (sym same) ∙ here) (listed place)) in
            subst (λ o. IsTableAt cluster place (e ∷ h) o) (sym (ap (slice_get (slice_set tables (t.node - 1) (without_task table t.number))) (sym same) ∙ set_same tables (t.node - 1) table (without_task table t.number) here))
            (subst (λ n. IsTableOf cluster n (e ∷ h) (without_task table t.number)) (sym back) (ended_here table is_of))
        by_case (inr apart) =
            let other : place + 1 ≢ t.node = (λ back. apart (omega arith)) in
            rw (set_other tables (t.node - 1) place (without_task table t.number) apart) (ended_there place other (slice_get tables place) (listed place))
