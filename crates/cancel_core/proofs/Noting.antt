-- What a listing has noted, step by step, and that it is taken back.
use Rattle.std.proofs.Common.{◌≡◌, ◌+◌, List, [], ◌∷◌, ◌++◌, Option, Some, None, Bool, true, false, not, ◌&&◌, cond, is_some, refl, sym, ap, ◌∙◌}
use Rattle.std.specs.Ordering.{eq_by_cmp}
use Rattle.std.specs.FinMap.{FinMap, get, insert, remove, from_entries, get-insert, get-remove, same_map}
use Rattle.task_ids.specs.declared.task_id.TaskId.{TaskId}
use Rattle.task_ids.specs.TaskIdOrder.{task_id_cmp}
use Rattle.task_ids.proofs.TaskIdKeys.{ids_total, exact_ids, value_at, get_id}
use Rattle.cancel_core.specs.Cancellation.{Cancellation}
use Rattle.cancel_core.specs.Listings.{is_awaited, is_to_note, taken_back}
use Rattle.cancel_core.proofs.Entries.{equal_of}

-- at a key that the map does not have, what a removal gives is what the map has
without_absent : {X : Type 0} (m : FinMap task_id_cmp X) (t q : TaskId) → get m t ≡ None → (x : Option X) (b : Bool) → eq_by_cmp task_id_cmp q t ≡ b → (b ≡ false → x ≡ get m q) → cond b None x ≡ get m q
without_absent m t q none x true e other = sym (ap (get m) (exact_ids q t (equal_of (task_id_cmp q t) e)) ∙ none)
without_absent m t q none x false e other = other refl

pub removed_absent : {X : Type 0} (m : FinMap task_id_cmp X) (t : TaskId) → get m t ≡ None → remove m t ≡ m
removed_absent m t none = same_map ids_total exact_ids (remove m t) m (λ q.
    get-remove ids_total m t q ∙ without_absent m t q none (get m q) (eq_by_cmp task_id_cmp q t) refl (λ _. refl))

-- what is put where there was nothing, and taken back, leaves no trace
removed_put : {X : Type 0} (m : FinMap task_id_cmp X) (t : TaskId) (x : X) → get m t ≡ None → remove (insert m t x) t ≡ m
removed_put m t x none = same_map ids_total exact_ids (remove (insert m t x) t) m (λ q.
    get-remove ids_total (insert m t x) t q
    ∙ without_absent m t q none (get (insert m t x) q) (eq_by_cmp task_id_cmp q t) refl (λ other. get-insert ids_total m t x q ∙ ap (λ b. cond b (Some x) (get m q)) other))

-- the last that was noted is taken back first
pub last_back : (ts : List TaskId) (t : TaskId) (waits : FinMap task_id_cmp TaskId) → taken_back (ts ++ t ∷ []) waits ≡ taken_back ts (remove waits t)
last_back [] t waits = refl
last_back (s ∷ ts) t waits = ap (λ m. remove m s) (last_back ts t waits)

pub back_after_put : (ts : List TaskId) (t p : TaskId) (waits : FinMap task_id_cmp TaskId) → get waits t ≡ None → taken_back (ts ++ t ∷ []) (insert waits t p) ≡ taken_back ts waits
back_after_put ts t p waits none = last_back ts t (insert waits t p) ∙ ap (taken_back ts) (removed_put waits t p none)

pub back_after_none : (ts : List TaskId) (t : TaskId) (waits : FinMap task_id_cmp TaskId) → get waits t ≡ None → taken_back (ts ++ t ∷ []) waits ≡ taken_back ts waits
back_after_none ts t waits none = last_back ts t waits ∙ ap (taken_back ts) (removed_absent waits t none)

pub nothing_there : {X : Type 0} (o : Option X) → is_some o ≡ false → o ≡ None
nothing_there None e = refl
nothing_there (Some x) e = absurd (cc)

not_noted : {X : Type 0} (b : Bool) (o : Option X) → (b && not (is_some o)) ≡ true → o ≡ None
not_noted b None e = refl
not_noted true (Some x) e = absurd (cc)
not_noted false (Some x) e = absurd (cc)

-- nothing waits for a task that is to be noted
pub to_note_absent : (entries : FinMap task_id_cmp Cancellation) (waits : FinMap task_id_cmp TaskId) (t : TaskId) → is_to_note entries waits t ≡ true → get waits t ≡ None
to_note_absent entries waits t e = not_noted (is_awaited (get entries t)) (get waits t) e

-- whether a task is to be noted, from what the trees have
pub to_note_at : (es : List (TaskId × Cancellation)) (ws : List (TaskId × TaskId)) (t : TaskId) (o : Option Cancellation) → value_at es t ≡ o → is_to_note (from_entries es) (from_entries ws) t ≡ (is_awaited o && not (is_some (value_at ws t)))
to_note_at es ws t o e = λ i. is_awaited ((get_id es t ∙ e) i) && not (is_some (get_id ws t i))
