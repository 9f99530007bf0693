-- The entry that a look-up finds is the task's, and a change of it changes no other.
use Rattle.std.proofs.Common.{◌≡◌, ℕ, List, [], ◌∷◌, Option, Some, None, Result, Ok, Err, OnErr, Bool, true, false, cond, is_some, unwrap_or, length, arith, refl, sym, ap, ◌∙◌}
use Rattle.std.specs.Cmp.{eq_by_cmp_equiv}
use Rattle.std.specs.Ordering.{is_eq}
use Rattle.std.specs.declared.cmp.Ordering.{Ordering}
use Rattle.std.specs.declared.cmp.Ordering.TheVariants.{Less, Equal, Greater}
use Rattle.std.specs.BTreeMap.{is_at}
use Rattle.std.specs.FinMap.{get, from_entries, same_map}
use Rattle.task_ids.specs.TaskIdOrder.{task_id_cmp}
use Rattle.task_ids.specs.declared.task_id.TaskId.{TaskId}
use Rattle.task_ids.proofs.TaskIdKeys.{ids_total, exact_ids, value_at, get_id, one_put, one_removed}
use Rattle.cancel_core.specs.Cancellation.{Cancellation, opened}
use Rattle.cancel_core.specs.Cancellations.{Cancellations, has_entry, entry_of, changed, with_entry}
use Rattle.cancel_core.specs.Fields.{core_with}
use Rattle.cancel_core.specs.declared.listings.Listings.{Listings}

pub found : (table : Cancellations) (task : TaskId) (c : Cancellation) → Some c ≡ get table.entries task → c ≡ entry_of table task
found table task c e = ap (λ o. unwrap_or o (opened 0 [])) e

pub missing : (table : Cancellations) (task : TaskId) → None ≡ get table.entries task → opened 0 [] ≡ entry_of table task
missing table task e = ap (λ (o : Option Cancellation). unwrap_or o (opened 0 [])) e

some_of : (o : Option Cancellation) → is_some o ≡ true → o ≡ Some (unwrap_or o (opened 0 []))
some_of None e = absurd (cc)
some_of (Some c) e = refl

one_changed : (es fs : List (TaskId × Cancellation)) (task : TaskId) (o : Option Cancellation) → ((q : TaskId) → value_at fs q ≡ cond (is_at (task_id_cmp task) q) o (value_at es q)) → from_entries {R = task_id_cmp} fs ≡ changed (from_entries es) task o
one_changed es fs task None h = one_removed es fs task h
one_changed es fs task (Some c) h = one_put es fs task c h

pub on_err : {T E : Type 0} (r : Result T E) (P : Type 0) → P → OnErr r P
on_err (Ok x) P p = tt
on_err (Err e) P p = p

pub equal_of : (r : Ordering) → is_eq r ≡ true → r ≡ Equal
equal_of Less e = absurd (cc)
equal_of Equal e = refl
equal_of Greater e = absurd (cc)

tied : (es : List (TaskId × Cancellation)) (task q : TaskId) (o : Option Cancellation) → o ≡ value_at es task → (b : Bool) → is_at (task_id_cmp task) q ≡ b → cond b o (value_at es q) ≡ value_at es q
tied es task q o e true h = e ∙ ap (value_at es) (exact_ids task q (equal_of (task_id_cmp task q) h))
tied es task q o e false h = refl

-- what is written back unchanged changes nothing
pub same_written : (es : List (TaskId × Cancellation)) (task q : TaskId) (o : Option Cancellation) → o ≡ value_at es task → cond (is_at (task_id_cmp task) q) o (value_at es q) ≡ value_at es q
same_written es task q o e = tied es task q o e (is_at (task_id_cmp task) q) refl

pub no_value : {X : Type 0} (es : List (TaskId × X)) (task : TaskId) → length es ≡ 0 → value_at es task ≡ None
no_value [] task none = refl
no_value (e ∷ es) task none = absurd (omega arith)

pub none_of : {X : Type 0} (o : Option X) → is_some o ≡ false → o ≡ None
none_of None e = refl
none_of (Some x) e = absurd (cc)

first_there : {X : Type 0} (e : TaskId × X) (es : List (TaskId × X)) → value_at (e ∷ es) e.0 ≡ Some e.1
first_there e es = ap (λ b. cond b (Some e.1) (value_at es e.0)) ((eq_by_cmp_equiv ids_total).refl e.0)

-- where no task has a value there are no entries
pub no_entry : {X : Type 0} (es : List (TaskId × X)) → ((task : TaskId) → value_at es task ≡ None) → length es ≡ 0
no_entry [] none = refl
no_entry (e ∷ es) none = let wrong : Some e.1 ≡ None = sym (first_there e es) ∙ none e.0 in absurd (cc)

-- a table that is seen by its entries
module _ (node : ℕ) (es : List (TaskId × Cancellation)) (listings : Listings) (table : Cancellations) (view_is : core_with node (from_entries es) listings ≡ table) where
  pub entry_there : (task : TaskId) → has_entry table task ≡ true → value_at es task ≡ Some (entry_of table task)
  entry_there task h = sym (get_id es task) ∙ ap (λ k. get k.entries task) view_is ∙ some_of (get table.entries task) h

  pub entry_changed : (fs : List (TaskId × Cancellation)) (task : TaskId) (o : Option Cancellation) → ((q : TaskId) → value_at fs q ≡ cond (is_at (task_id_cmp task) q) o (value_at es q)) → core_with node (from_entries fs) listings ≡ with_entry table task o
  entry_changed fs task o h = (λ i. core_with node (one_changed es fs task o h i) listings) ∙ ap (λ k. with_entry k task o) view_is

  pub entries_same : (fs : List (TaskId × Cancellation)) → ((q : TaskId) → value_at fs q ≡ value_at es q) → core_with node (from_entries fs) listings ≡ table
  entries_same fs h = (λ i. core_with node (same_map ids_total exact_ids (from_entries fs) (from_entries es) (λ q. get_id fs q ∙ h q ∙ sym (get_id es q)) i) listings) ∙ view_is

  pub none_there : length es ≡ 0 → (task : TaskId) → has_entry table task ≡ false
  none_there none task = ap (λ k. has_entry k task) (sym view_is) ∙ ap (λ o. is_some o) (get_id es task ∙ no_value es task none)

  pub none_left : ((task : TaskId) → has_entry table task ≡ false) → length es ≡ 0
  none_left none = no_entry es (λ task. sym (get_id es task) ∙ none_of (get (from_entries es) task) (ap (λ k. has_entry k task) view_is ∙ none task))
