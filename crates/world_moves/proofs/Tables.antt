-- What the table of a node tells, and the tables after a task was put into one of them.
use Rattle.std.proofs.Common.{◌≡◌, ◌≢◌, ◌==◌, ◌+◌, ◌-◌, ◌<◌, ◌≤◌, ◌⊎◌, ℕ, true, false, cond, List, [], ◌∷◌, ◌++◌, length, Option, Some, None, inl, inr, refl, sym, ap, subst, ◌∙◌, filter, reverse, arith}
use Rattle.std.specs.Prelude.{slice_get, slice_set}
use Rattle.std.proofs.lemmas.List.{reverse-append, map-append, length-map, length-reverse}
use Rattle.std.proofs.lemmas.List.Sums.{length-filter}
use Rattle.std.proofs.lemmas.Bool.Decides.{nat_tests}
use Rattle.std.proofs.lemmas.Option.{slice_get_within}
use Rattle.std.proofs.lemmas.Bool.{cases_eq}
use Rattle.task_ids.specs.declared.task_id.TaskId.{TaskId}
use Rattle.task_ids.specs.declared.task_info.NewTask.{NewTask}
use Rattle.task_ids.specs.declared.cluster.Cluster.{Cluster}
use Rattle.task_table.specs.Table.{Table, with_task}
use Rattle.task_events.specs.declared.event.Event.{Event}
use Rattle.task_events.specs.Tasks.{live_tasks, live_on, last_number}
use Rattle.task_events.specs.Allowed.{TakesSlot}
use Rattle.task_events.specs.Lawful.{Lawful}
use Rattle.task_laws.proofs.Numbers.{number_is}
use Rattle.task_laws.proofs.Living.{living_facts}
use Rattle.task_laws.proofs.Marks.{cause_facts}
use Rattle.world_moves.specs.Moves.{greatest_number, NodeLacksNumber}
use Rattle.world_moves.specs.Ties.{IsTableAt, IsTableOf}
use Rattle.world_moves.proofs.ByPlace.{set_same, set_other}

-- a table has a row for each live task of its node
pub rows_counted : (cluster : Cluster) (n : ℕ) (h : List Event) (table : Table) → Lawful cluster h → IsTableOf cluster n h table → length table.live ≡ live_on n h
rows_counted cluster n h table lawful i =
    sym (length-map table.live (λ row. row.id)) ∙ ap length i.lists ∙ length-reverse (filter (λ t. n == t.node) (live_tasks h))
    ∙ length-filter (λ t. n == t.node) (live_tasks h) ∙ number_is (λ t. n == t.node) (live_tasks h) ∙ (living_facts cluster h lawful).on_node n

-- there is a table of each node of the cluster
table_at : (cluster : Cluster) (n : ℕ) (h : List Event) (o : Option Table) → 1 ≤ n → n ≤ cluster.nodes → IsTableAt cluster (n - 1) h o → (table : Table) × (o ≡ Some table) × IsTableOf cluster n h table
table_at cluster n h None low high i = absurd (omega arith)
table_at cluster n h (Some table) low high i = let same : (n - 1) + 1 ≡ n = omega arith in (table, refl, subst (λ m. IsTableOf cluster m h table) same i)

module _ (cluster : Cluster) (h : List Event) (tables : List Table) (listed : (place : ℕ) → IsTableAt cluster place h (slice_get tables place)) (n : ℕ) (low : 1 ≤ n) (high : n ≤ cluster.nodes) where
  pub table_of : (table : Table) × (slice_get tables (n - 1) ≡ Some table) × IsTableOf cluster n h table
  table_of = table_at cluster n h (slice_get tables (n - 1)) low high (listed (n - 1))

  pub node_has_table : n ≤ length tables
  node_has_table = let x = slice_get_within tables (n - 1) table_of.0 table_of.1 in omega arith

  -- a full table
  pub no_slot : Lawful cluster h → ((table : Table) → slice_get tables (n - 1) ≡ Some table → length table.live ≡ table.slots) → cluster.slots ≤ live_on n h
  no_slot lawful full =
      let i = table_of.2 in
      let rows = rows_counted cluster n h table_of.0 lawful i in
      let all = full table_of.0 table_of.1 in
      let slots = i.slots_are in
      omega arith

  pub no_number : Lawful cluster h → ((table : Table) → slice_get tables (n - 1) ≡ Some table → (length table.live < table.slots) × (table.last ≡ greatest_number)) → NodeLacksNumber cluster h n
  no_number lawful spent =
      let i = table_of.2 in
      let rows = rows_counted cluster n h table_of.0 lawful i in
      let all = spent table_of.0 table_of.1 in
      let few = all.0 in
      let slots = i.slots_are in
      (omega arith, sym i.last_is ∙ all.1)

  -- a node that lacks a number has a table that says so
  pub spent_table : Lawful cluster h → NodeLacksNumber cluster h n → (length table_of.0.live < table_of.0.slots) × (table_of.0.last ≡ greatest_number)
  spent_table lawful lacks =
      let i = table_of.2 in
      let rows = rows_counted cluster n h table_of.0 lawful i in
      let few = lacks.0 in
      let slots = i.slots_are in
      (omega arith, i.last_is ∙ lacks.1)

-- A task was put into the table of a node.
pub record IsPutOn (tables : List Table) (n : ℕ) (t : TaskId) (task : NewTask) (after : List Table) : Type 0 where
  pub id : (table : Table) → slice_get tables (n - 1) ≡ Some table → (t.node ≡ table.node) × (t.number ≡ table.last + 1)
  pub row : (table : Table) → slice_get tables (n - 1) ≡ Some table → after ≡ slice_set tables (n - 1) (with_task table t task)
  pub free : (table : Table) → slice_get tables (n - 1) ≡ Some table → length table.live ≢ table.slots

-- the event starts the task
pub record IsStartOf (t : TaskId) (e : Event) (h : List Event) : Type 0 where
  pub last : (n : ℕ) → last_number n (e ∷ h) ≡ cond (n == t.node) t.number (last_number n h)
  pub live : live_tasks (e ∷ h) ≡ t ∷ live_tasks h

module _ (cluster : Cluster) (t : TaskId) (e : Event) (h : List Event) (starts : IsStartOf t e h) where
  here : (n : ℕ) → n ≡ t.node → (n == t.node) ≡ true
  here n same = grind (arith, nat_tests)

  elsewhere : (n : ℕ) → n ≢ t.node → (n == t.node) ≡ false
  elsewhere n apart = grind (arith, nat_tests)

  -- the table of its node
  grown : (n : ℕ) (table : Table) (task : NewTask) → n ≡ t.node → IsTableOf cluster n h table → IsTableOf cluster n (e ∷ h) (with_task table t task)
  grown n table task same i = record {
    node_is = i.node_is;
    slots_are = i.slots_are;
    last_is = sym (starts.last n ∙ ap (λ b. cond b t.number (last_number n h)) (here n same));
    lists = map-append (λ row. row.id) table.live _ ∙ ap (λ ts. ts ++ t ∷ []) i.lists ∙ sym (reverse-append (t ∷ []) (filter (λ u. n == u.node) (live_tasks h)))
        ∙ sym (ap (λ ts. reverse (filter (λ u. n == u.node) ts)) starts.live ∙ ap (λ b. reverse (cond b (t ∷ filter (λ u. n == u.node) (live_tasks h)) (filter (λ u. n == u.node) (live_tasks h)))) (here n same));
  }

  -- that of another node
  same_table : (place : ℕ) (o : Option Table) → place + 1 ≢ t.node → IsTableAt cluster place h o → IsTableAt cluster place (e ∷ h) o
  same_table place None apart i = i
  same_table place (Some table) apart i = record {
    node_is = i.node_is;
    slots_are = i.slots_are;
    last_is = i.last_is ∙ sym (starts.last (place + 1) ∙ ap (λ b. cond b t.number (last_number (place + 1) h)) (elsewhere (place + 1) apart));
    lists = i.lists ∙ sym (ap (λ ts. reverse (filter (λ u. (place + 1) == u.node) ts)) starts.live
        ∙ ap (λ b. reverse (cond b (t ∷ filter (λ u. (place + 1) == u.node) (live_tasks h)) (filter (λ u. (place + 1) == u.node) (live_tasks h)))) (elsewhere (place + 1) apart));
  }

module _ (cluster : Cluster) (h : List Event) (tables : List Table) (listed : (place : ℕ) → IsTableAt cluster place h (slice_get tables place)) (n : ℕ) (low : 1 ≤ n) (high : n ≤ cluster.nodes)
    (t : TaskId) (task : NewTask) (after : List Table) (put : IsPutOn tables n t task after) where
  pub put_node : t.node ≡ n
  put_node =
      let x = table_of cluster h tables listed n low high in
      (put.id x.0 x.1).0 ∙ x.2.node_is

  live_below : Lawful cluster h → live_on n h < cluster.slots
  live_below lawful =
      let x = table_of cluster h tables listed n low high in
      let rows = rows_counted cluster n h x.0 lawful x.2 in
      let free = put.free x.0 x.1 in
      let slots = x.2.slots_are in
      let few = (cause_facts cluster h lawful).room n in
      omega arith

  pub put_takes : Lawful cluster h → TakesSlot cluster t h
  put_takes lawful =
      let x = table_of cluster h tables listed n low high in
      let node = put_node in
      record {
        next = (put.id x.0 x.1).1 ∙ ap (λ k. k + 1) (x.2.last_is ∙ ap (λ m. last_number m h) (sym node));
        free = rw node (live_below lawful);
      }

  pub put_listed : (e : Event) → IsStartOf t e h → (place : ℕ) → IsTableAt cluster place (e ∷ h) (slice_get after place)
  put_listed e starts place = by_case (cases_eq place (n - 1))
    where
      x : (table : Table) × (slice_get tables (n - 1) ≡ Some table) × IsTableOf cluster n h table
      x = table_of cluster h tables listed n low high

      this : slice_get after (n - 1) ≡ Some (with_task x.0 t task)
      this = ap (λ ts. slice_get ts (n - 1)) (put.row x.0 x.1) ∙ set_same tables (n - 1) x.0 (with_task x.0 t task) x.1

      that : place ≢ n - 1 → slice_get after place ≡ slice_get tables place
      that apart = ap (λ ts. slice_get ts place) (put.row x.0 x.1) ∙ set_other tables (n - 1) place (with_task x.0 t task) (λ same. apart (sym same))

      at_node : IsTableOf cluster ((n - 1) + 1) (e ∷ h) (with_task x.0 t task)
      at_node = let same : n ≡ (n - 1) + 1 = omega arith in subst (λ m. IsTableOf cluster m (e ∷ h) (with_task x.0 t task)) same (grown cluster t e h starts n x.0 task (sym put_node) x.2)

      by_case : (place ≡ n - 1) ⊎ (place ≡ n - 1 → ⊥) → IsTableAt cluster place (e ∷ h) (slice_get after place)
      by_case (inl same) = subst (λ p. IsTableAt cluster p (e ∷ h) (slice_get after p)) (sym same) (subst (λ o. IsTableAt cluster (n - 1) (e ∷ h) o) (sym this) at_node)
      by_case (inr apart) =
          let node = put_node in
          let other : place + 1 ≢ t.node = λ same. apart (omega arith) in
          subst (λ o. IsTableAt cluster place (e ∷ h) o) (sym (that apart)) (same_table cluster t e h starts place (slice_get tables place) other (listed place))
