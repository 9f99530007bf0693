-- What the tests on ids tell.
use Rattle.std.proofs.Common.{◌≡◌, ◌≢◌, ◌⊎◌, ℕ, true, false, arith}
use Rattle.std.proofs.lemmas.Bool.Decides.{nat_tests}
use mathlib.Core.HLevel.{is_prop→PathP}
use Rattle.std.specs.Coded.{le_prop}
use Rattle.task_ids.specs.Limits.{IsNode, IsNumber}
use Rattle.task_ids.specs.declared.task_id.TaskId.{TaskId}
use Rattle.task_events.specs.Same.{same_task, same_pair}

-- an id is its node and its number
pub same_fields : (t u : TaskId) → t.node ≡ u.node → t.number ≡ u.number → t ≡ u
same_fields t u p q = λ i. record {
  node = p i;
  number = q i;
  node_in_range = is_prop→PathP (λ i. IsNode (p i)) (λ i. hlevel le_prop) t.node_in_range u.node_in_range i;
  number_in_range = is_prop→PathP (λ i. IsNumber (q i)) (λ i. hlevel le_prop) t.number_in_range u.number_in_range i;
}

pub same_task_tells : (t u : TaskId) → ((same_task t u ≡ true) × (t ≡ u)) ⊎ ((same_task t u ≡ false) × (t ≢ u))
unfolding same_task
same_task_tells t u = grind (arith, nat_tests, same_fields t u)

pub same_pair_tells : (t : TaskId) (k : ℕ) (u : TaskId) (j : ℕ) → ((same_pair t k u j ≡ true) × (t ≡ u) × (k ≡ j)) ⊎ ((same_pair t k u j ≡ false) × (t ≡ u → k ≢ j))
unfolding same_pair
same_pair_tells t k u j = grind (arith, nat_tests, same_task_tells)

pub ruleset same_tests = (same_task_tells, same_pair_tells, nat_tests)

pub same_pair_refl : (t : TaskId) (k : ℕ) → same_pair t k t k ≡ true
same_pair_refl t k = grind (arith, same_tests)

pub same_task_is : (t u : TaskId) → same_task t u ≡ true → t ≡ u
same_task_is t u e = grind (arith, same_tests)

pub same_task_refl : (t : TaskId) → same_task t t ≡ true
same_task_refl t = grind (arith, same_tests)
