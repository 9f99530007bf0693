-- The order of task ids, so that they can be the keys of a map, and how the logic stores them.
use Rattle.std.specs.Prelude.{◌≡◌, ℕ}
use Rattle.std.specs.Ordering.{nat_cmp, ordering_then}
use Rattle.std.specs.declared.cmp.Ordering.{Ordering}
use Rattle.std.specs.Coded.{Coded, coded×, coded_ℕ}
use native.Mathlib.Bridge.{le_prop}
use mathlib.Core.HLevel.{is_prop→PathP}
use mathlib.Core.Path.{ap}
use Rattle.task_ids.specs.Limits.{IsNode, IsNumber}
use Rattle.task_ids.specs.declared.task_id.TaskId.{TaskId}

-- by node, and then by number
abbrev pub task_id_cmp : TaskId → TaskId → Ordering
task_id_cmp a b = ordering_then (nat_cmp a.node b.node) (nat_cmp a.number b.number)

-- ids with the same node and number are one: the ranges that the type keeps have one proof each
pub same_id : (a b : TaskId) → a.node ≡ b.node → a.number ≡ b.number → a ≡ b
same_id a b nodes numbers = λ i. record {
  node = nodes i;
  number = numbers i;
  node_in_range = is_prop→PathP (λ j. IsNode (nodes j)) (λ j p q k. (le_prop p.0 q.0 k, le_prop p.1 q.1 k)) a.node_in_range b.node_in_range i;
  number_in_range = is_prop→PathP (λ j. IsNumber (numbers j)) (λ j p q k. (le_prop p.0 q.0 k, le_prop p.1 q.1 k)) a.number_in_range b.number_in_range i;
}

pub id_one : (a b : TaskId) → (coded× coded_ℕ coded_ℕ).code (a.node, a.number) ≡ (coded× coded_ℕ coded_ℕ).code (b.node, b.number) → a ≡ b
id_one a b e =
    let same = (coded× coded_ℕ coded_ℕ).inj (a.node, a.number) (b.node, b.number) e in
    same_id a b (ap (λ (p : ℕ × ℕ). p.0) same) (ap (λ (p : ℕ × ℕ). p.1) same)

-- as a pair of numbers
abbrev pub coded_task_id : Coded TaskId
coded_task_id = record { code = λ t. (coded× coded_ℕ coded_ℕ).code (t.node, t.number); inj = id_one }
