-- What contracts see of a table of results: those that stand, and the commands that wait for a task to end.
use Rattle.std.specs.Prelude.{ℕ, List, [], unwrap_or, refl}
use Rattle.std.specs.Coded.{Coded, code_by, coded×, coded_ℕ, coded_list}
use Rattle.std.specs.FinMap.{FinMap, code, empty, get}
use Rattle.task_ids.specs.declared.task_id.TaskId.{TaskId}
use Rattle.task_ids.specs.TaskIdOrder.{task_id_cmp, coded_task_id}
use Rattle.task_events.specs.declared.reply.Reply.{Reply}
use Rattle.task_events.specs.contracts.reply.Reply as reply

pub record Results : Type 0 where
  -- of each task whose result stands, the reply
  pub kept : FinMap task_id_cmp Reply
  -- of each task for which commands wait, these
  pub waiting : FinMap task_id_cmp (List ℕ)

abbrev pub no_results : Results
no_results = record { kept = empty; waiting = empty }

-- the commands that wait for a task
abbrev pub waiting_for : TaskId → FinMap task_id_cmp (List ℕ) → List ℕ
waiting_for id waiting = unwrap_or (get waiting id) []

abbrev pub coded_results : Coded Results
coded_results =
    code_by (FinMap task_id_cmp Reply × FinMap task_id_cmp (List ℕ)) (coded× (code coded_task_id reply.the_row.coded) (code coded_task_id (coded_list coded_ℕ)))
    (λ r. (r.kept, r.waiting)) (λ p. record { kept = p.0; waiting = p.1 }) (λ _. refl)
