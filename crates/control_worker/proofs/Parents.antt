-- A map of parents after one of them came or went.
use Rattle.std.proofs.Common.{◌≡◌, List, ◌⊎◌, inl, inr, Bool, true, false, cond, Some, None, is_some, length, refl, sym, ap, ◌∙◌}
use Rattle.std.specs.Cmp.{eq_by_cmp_equiv}
use Rattle.std.specs.Ordering.{eq_by_cmp}
use Rattle.std.specs.FinMap.{FinMap, get, insert, remove, from_entries, get-insert, get-remove, same_map}
use Rattle.task_ids.specs.declared.task_id.TaskId.{TaskId}
use Rattle.task_ids.specs.TaskIdOrder.{task_id_cmp}
use Rattle.task_ids.proofs.TaskIdKeys.{ids_total, exact_ids, get_id}
use Rattle.cancel_core.proofs.Entries.{equal_of, none_of, no_value, no_entry}

-- ids are the same, or compare as other
same_or_other : (q p : TaskId) (b : Bool) → eq_by_cmp task_id_cmp q p ≡ b → (q ≡ p) ⊎ (eq_by_cmp task_id_cmp q p ≡ false)
same_or_other q p true e = inl (exact_ids q p (equal_of (task_id_cmp q p) e))
same_or_other q p false e = inr e

pub alike : (q p : TaskId) → (q ≡ p) ⊎ (eq_by_cmp task_id_cmp q p ≡ false)
alike q p = same_or_other q p (eq_by_cmp task_id_cmp q p) refl

itself : (p : TaskId) → eq_by_cmp task_id_cmp p p ≡ true
itself p = (eq_by_cmp_equiv ids_total).refl p

pub differs : (q p : TaskId) → q ≡ p → eq_by_cmp task_id_cmp q p ≡ false → ⊥
differs q p same other = let wrong : true ≡ false = sym (ap (λ x. eq_by_cmp task_id_cmp x p) same ∙ itself p) ∙ other in absurd (cc)

module _ {X : Type 0} (m : FinMap task_id_cmp X) (p : TaskId) where
  pub inserted_value : (x : X) → get (insert m p x) p ≡ Some x
  inserted_value x = get-insert ids_total m p x p ∙ ap (λ b. cond b (Some x) (get m p)) (itself p)

  pub inserted : (x : X) → is_some (get (insert m p x) p) ≡ true
  inserted x = ap (λ o. is_some o) (inserted_value x)

  pub insert_other : (x : X) (q : TaskId) → eq_by_cmp task_id_cmp q p ≡ false → get (insert m p x) q ≡ get m q
  insert_other x q other = get-insert ids_total m p x q ∙ ap (λ b. cond b (Some x) (get m q)) other

  pub removed_value : get (remove m p) p ≡ None
  removed_value = get-remove ids_total m p p ∙ ap (λ b. cond b None (get m p)) (itself p)

  pub removed : is_some (get (remove m p) p) ≡ false
  removed = ap (λ o. is_some o) removed_value

  pub remove_other : (q : TaskId) → eq_by_cmp task_id_cmp q p ≡ false → get (remove m p) q ≡ get m q
  remove_other q other = get-remove ids_total m p q ∙ ap (λ b. cond b None (get m q)) other

-- what is put where there was nothing, and taken away again, leaves no trace
pub put_back : {X : Type 0} (m : FinMap task_id_cmp X) (p : TaskId) (x : X) → is_some (get m p) ≡ false → remove (insert m p x) p ≡ m
put_back m p x none = same_map ids_total exact_ids (remove (insert m p x) p) m (λ q. elim (alike q p) [
  | inl same ↦ ap (get (remove (insert m p x) p)) same ∙ none_of _ (removed (insert m p x) p) ∙ sym (none_of _ none) ∙ ap (get m) (sym same)
  | inr other ↦ remove_other (insert m p x) p q other ∙ insert_other m p x q other
])

-- a tree with no entry has no parent
pub no_parent : {X : Type 0} (es : List (TaskId × X)) (p : TaskId) → length es ≡ 0 → is_some (get (from_entries {R = task_id_cmp} es) p) ≡ false
no_parent es p none = ap (λ o. is_some o) (get_id es p ∙ no_value es p none)

-- and where there is no parent, the tree has no entry
pub no_entries : {X : Type 0} (es : List (TaskId × X)) → ((p : TaskId) → is_some (get (from_entries {R = task_id_cmp} es) p) ≡ false) → length es ≡ 0
no_entries es none = no_entry es (λ p. sym (get_id es p) ∙ none_of (get (from_entries {R = task_id_cmp} es) p) (none p))
