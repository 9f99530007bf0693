-- What contracts see of a core: the cancellation of each task that has one, the listings that wait, and how the logic stores it.
use Rattle.std.specs.Prelude.{ℕ, Bool, List, [], Option, None, Some, is_some, unwrap_or, refl}
use Rattle.std.specs.FinMap.{FinMap, empty, get, insert, remove, code}
use Rattle.std.specs.Coded.{Coded, code_by, coded×, coded_ℕ, coded_bool, coded_list, coded_option}
use Rattle.task_ids.specs.declared.task_id.TaskId.{TaskId}
use Rattle.task_ids.specs.TaskIdOrder.{task_id_cmp, coded_task_id}
use Rattle.child_track.specs.Token.{ReceiptParts}
use Rattle.cancel_core.specs.declared.act.Waiter.{Waiter}
use Rattle.cancel_core.specs.Cancellation.{Cancellation, opened}

-- a node, and the cancellations of its tasks; the tasks for which a listing waits, each with the parent whose children were listed; and for how many of them the listing of a parent waits
pub record Cancellations : Type 0 where
  pub node : ℕ
  pub entries : FinMap task_id_cmp Cancellation
  pub waits : FinMap task_id_cmp TaskId
  pub listings : FinMap task_id_cmp ℕ

abbrev pub no_cancellations : ℕ → Cancellations
no_cancellations node = record { node = node; entries = empty; waits = empty; listings = empty }

abbrev pub has_entry : Cancellations → TaskId → Bool
has_entry table task = is_some (get table.entries task)

-- the cancellation of a task, and one of nothing where it has none
abbrev pub entry_of : Cancellations → TaskId → Cancellation
entry_of table task = unwrap_or (get table.entries task) (opened 0 [])

abbrev pub changed : FinMap task_id_cmp Cancellation → TaskId → Option Cancellation → FinMap task_id_cmp Cancellation
changed entries task None = remove entries task
changed entries task (Some c) = insert entries task c

-- the task's own entry alone is another, or goes
abbrev pub with_entry : Cancellations → TaskId → Option Cancellation → Cancellations
with_entry table task c = record table { entries = changed table.entries task c }

abbrev pub coded_waiter : Coded Waiter
coded_waiter = code_by (ℕ × Bool) (coded× coded_ℕ coded_bool) (λ w. (w.cancel, w.wait)) (λ p. record { cancel = p.0; wait = p.1 }) (λ _. refl)

abbrev pub coded_receipt : Coded ReceiptParts
coded_receipt =
    code_by (Option TaskId × (Option TaskId × ℕ)) (coded× (coded_option coded_task_id) (coded× (coded_option coded_task_id) coded_ℕ))
    (λ r. (r.task, (r.parent, r.ask))) (λ p. record { task = p.0; parent = p.1.0; ask = p.1.1 }) (λ _. refl)

abbrev pub coded_cancellation : Coded Cancellation
coded_cancellation =
    code_by (ℕ × (List ℕ × (List ℕ × (List Waiter × Option ReceiptParts))))
    (coded× coded_ℕ (coded× (coded_list coded_ℕ) (coded× (coded_list coded_ℕ) (coded× (coded_list coded_waiter) (coded_option coded_receipt)))))
    (λ c. (c.cancel, (c.banned, (c.awaited, (c.waiters, c.receipt)))))
    (λ p. record { cancel = p.0; banned = p.1.0; awaited = p.1.1.0; waiters = p.1.1.1.0; receipt = p.1.1.1.1 })
    (λ _. refl)

abbrev pub coded_cancellations : Coded Cancellations
coded_cancellations =
    code_by (ℕ × (FinMap task_id_cmp Cancellation × (FinMap task_id_cmp TaskId × FinMap task_id_cmp ℕ)))
    (coded× coded_ℕ (coded× (code coded_task_id coded_cancellation) (coded× (code coded_task_id coded_task_id) (code coded_task_id coded_ℕ))))
    (λ k. (k.node, (k.entries, (k.waits, k.listings)))) (λ p. record { node = p.0; entries = p.1.0; waits = p.1.1.0; listings = p.1.1.1 }) (λ _. refl)
