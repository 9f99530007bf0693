-- Ids that compare as equal are one.
use Rattle.std.proofs.Common.{◌≡◌, ◌==◌, ◌&&◌, true}
use Rattle.std.proofs.lemmas.Bool.{and_parts, eqb-true, and_from, eq-eqb}
use Rattle.task_ids.specs.declared.task_id.TaskId.{TaskId}
pub use Rattle.task_ids.specs.TaskIdOrder.{same_id}

-- what `==` on ids computes
pub same_id-from_test : (a b : TaskId) → ((a.node == b.node) && (a.number == b.number)) ≡ true → a ≡ b
same_id-from_test a b test =
    let parts = and_parts _ _ test in
    same_id a b (eqb-true _ _ parts.0) (eqb-true _ _ parts.1)

pub test-from_same_id : (a b : TaskId) → a ≡ b → ((a.node == b.node) && (a.number == b.number)) ≡ true
test-from_same_id a b same = and_from _ _ (eq-eqb _ _ (λ i. (same i).node)) (eq-eqb _ _ (λ i. (same i).number))
