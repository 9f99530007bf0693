-- The commands that wait for a task, as the tree keeps them.
use Rattle.std.proofs.Common.{◌≡◌, ℕ, ◌+◌, ◌<◌, List, [], ◌∷◌, ◌++◌, length, Option, None, Some, IfSome, cond, All, sym, ap, subst, arith, ◌∙◌}
use Rattle.std.specs.BTreeMap.{is_at}
use Rattle.std.specs.Cmp.{eq_by_cmp_equiv}
use Rattle.std.specs.FinMap.{FinMap, get, get-insert, insert, from_entries}
use Rattle.std.specs.List.Sorted.{IsStrictlyIncreasing}
use Rattle.std.specs.Option.{unwrap_or}
use Rattle.std.specs.Ordering.{eq_by_cmp}
use Rattle.std.proofs.lemmas.Bool.{cond_both, cond-true, cases_lt}
use Rattle.std.proofs.lemmas.List.{get_or_append_left, get_or_push, length_push}
use Rattle.std.proofs.Math.Logic.{⊎_elim}
use Rattle.task_ids.proofs.TaskIdKeys.{get_id, ids_total, value_at}
use Rattle.task_ids.specs.TaskIdOrder.{task_id_cmp}
use Rattle.task_ids.specs.declared.task_id.TaskId.{TaskId}
use Rattle.task_results.specs.Results.{waiting_for}

-- what the tree keeps of a task, or nothing
pub waiting_is : (es : List (TaskId × List ℕ)) (m : FinMap task_id_cmp (List ℕ)) (id : TaskId) (o : Option (List ℕ)) → from_entries es ≡ m → value_at es id ≡ o → waiting_for id m ≡ unwrap_or o []
waiting_is es m id o view is = ap (λ x. unwrap_or x []) (ap (λ x. get x id) (sym view) ∙ get_id es id ∙ is)

-- those that were put there last
pub waiting_then : (m : FinMap task_id_cmp (List ℕ)) (id : TaskId) (xs : List ℕ) → waiting_for id (insert m id xs) ≡ xs
waiting_then m id xs =
    ap (λ o. unwrap_or o []) (get-insert ids_total m id xs id ∙ cond-true (eq_by_cmp task_id_cmp id id) (Some xs) (get m id) ((eq_by_cmp_equiv ids_total).refl id))

-- a command above all others goes to the end
pub one_later : (xs : List ℕ) (y : ℕ) → IsStrictlyIncreasing xs → All (λ k. k < y) xs → IsStrictlyIncreasing (xs ++ y ∷ [])
one_later xs y rising below k within =
    let size = length_push xs y in
    let inside : k < length xs = omega (arith, size, within) in
    ⊎_elim
    (λ more. rw (get_or_append_left xs (y ∷ []) 0 k inside, get_or_append_left xs (y ∷ []) 0 (k + 1) more) (rising k more))
    (λ last. let end : length xs ≡ k + 1 = omega (arith, size, within, last) in rw (get_or_append_left xs (y ∷ []) 0 k inside, get_or_push xs y 0 (k + 1) end) (below k 0 inside))
    (cases_lt (k + 1) (length xs))

none_rises : IsStrictlyIncreasing []
none_rises k within = absurd (omega arith)

-- the first that waits
pub first_rises : (y : ℕ) → IsStrictlyIncreasing (y ∷ [])
first_rises y = one_later [] y none_rises (λ k d within. absurd (omega arith))

pub rises_or_none : (o : Option (List ℕ)) → IfSome o IsStrictlyIncreasing → IsStrictlyIncreasing (unwrap_or o [])
rises_or_none None h = none_rises
rises_or_none (Some xs) h = h

-- where those of one task change, all others still rise
pub rise_still : (es fs : List (TaskId × List ℕ)) (id : TaskId) (o : Option (List ℕ)) → ((q : TaskId) → value_at fs q ≡ cond (is_at (task_id_cmp id) q) o (value_at es q)) → IfSome o IsStrictlyIncreasing
    → ((q : TaskId) → IfSome (value_at es q) IsStrictlyIncreasing) → (q : TaskId) → IfSome (value_at fs q) IsStrictlyIncreasing
rise_still es fs id o updates here there q =
    subst (λ x. IfSome x IsStrictlyIncreasing) (sym (updates q)) (cond_both (is_at (task_id_cmp id) q) o (value_at es q) (λ x. IfSome x IsStrictlyIncreasing) (λ _. here) (λ _. there q))
