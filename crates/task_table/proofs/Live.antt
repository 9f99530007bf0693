-- Who is live after each call: a task that is put in is, and a mark ends nobody.
use Rattle.std.proofs.Common.{◌≡◌, ℕ, ◌∙◌, ◌∷◌, [], true, false, cond, refl, ap, arith, length-append, Some}
use Rattle.std.proofs.lemmas.List.{get_or-map, get_or_append_left, length-map}
use Rattle.std.proofs.lemmas.List.Quantifiers.{Any-push}
use Rattle.task_ids.specs.declared.task_id.TaskId.{TaskId}
use Rattle.task_ids.specs.declared.task_info.NewTask.{NewTask}
use Rattle.task_ids.specs.declared.task_info.TaskInfo.{TaskInfo}
use Rattle.task_table.specs.declared.ended.MarkAnswer.{MarkAnswer}
use Rattle.task_table.specs.declared.ended.MarkAnswer.TheVariants.{Marked, Already, NotFound}
use Rattle.task_table.specs.Rows.{row_for, has_number, marked}
use Rattle.task_table.specs.Table.{Table, with_task, with_mark, IsLive}
use Rattle.task_table.specs.Answer.{after_mark}

pub IsLive-with_task : (table : Table) (id : TaskId) (task : NewTask) → IsLive (with_task table id task) id
IsLive-with_task table id task = Any-push (λ row. row.id ≡ id) table.live (row_for id task) refl

pub IsLive-kept_with_task : (table : Table) (id other : TaskId) (task : NewTask) → IsLive table other → IsLive (with_task table id task) other
IsLive-kept_with_task table id other task (k, row, within, read, same) =
    (k, row, omega (arith, within, length-append table.live (row_for id task ∷ [])), get_or_append_left table.live (row_for id task ∷ []) row k within ∙ read, same)

id-marked : (number cancel : ℕ) (row : TaskInfo) → (marked number cancel row).id ≡ row.id
id-marked number cancel row = elim (has_number number row) as (λ b. (cond b (record row { cancelled = Some cancel }) row).id ≡ row.id) [ true ↦ refl | false ↦ refl ]

pub IsLive-with_mark : (table : Table) (number cancel : ℕ) (id : TaskId) → IsLive table id → IsLive (with_mark table number cancel) id
IsLive-with_mark table number cancel id (k, row, within, read, same) =
    let now = marked number cancel row in
    (k, now, omega (arith, within, length-map {A = TaskInfo} {B = TaskInfo}), get_or-map (marked number cancel) table.live k row now within ∙ ap (marked number cancel) read, id-marked number cancel row ∙ same)

pub IsLive-after_mark : (answer : MarkAnswer) (table : Table) (number cancel : ℕ) (id : TaskId) → IsLive table id → IsLive (after_mark answer table number cancel) id
IsLive-after_mark Marked table number cancel id live = IsLive-with_mark table number cancel id live
IsLive-after_mark (Already _) table number cancel id live = live
IsLive-after_mark NotFound table number cancel id live = live
