use Rattle.std.proofs.Common.{◌≡◌, ◌∙◌, Bool, true, false, not, Option, Some, None, sym, ap, refl, is_some}
use Rattle.task_ids.proofs.SameId.{same_id-from_test}
use Rattle.task_table.proofs.rows.is_unmarked_child.Goals as goal

none_from_test : {A : Type 0} (o : Option A) (test : Bool) → is_some o ≡ not test → test ≡ true → o ≡ None
none_from_test None test e passed = refl
none_from_test (Some x) true e passed = cc
none_from_test (Some x) false e passed = cc

test_from_none : {A : Type 0} (o : Option A) (test : Bool) → is_some o ≡ not test → o ≡ None → test ≡ true
test_from_none None true e none = refl
test_from_none None false e none = cc
test_from_none (Some x) test e none = cc

pub returns-then-eq : goal.returns-then-eq
returns-then-eq c =
    let same = same_id-from_test _ _ (sym c.if-eq.ensures) in (
      λ yes. (c.in-Some.is ∙ ap Some same, none_from_test _ _ c.is_none.ensures yes),
      λ child. test_from_none _ _ c.is_none.ensures child.1,
    )
