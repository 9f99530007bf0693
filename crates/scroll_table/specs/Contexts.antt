-- What contracts see of the contexts that stand on a node: what a task is told that asks for one, and what they keep.
use Rattle.std.specs.Prelude.{ℕ, List, filter_map, min, not, ◌&&◌, Option, None, Some, Result, Ok, Err, if◌then◌else◌}
use Rattle.std.specs.Borrow.{Bor}
use Rattle.std.specs.FinMap.{FinMap, values}
use Rattle.std.specs.List.{reduce}
use Rattle.task_ids.specs.TaskIdOrder.{task_id_cmp}
use Rattle.task_ids.specs.declared.task_id.TaskId.{TaskId}
use Rattle.task_events.specs.declared.context.Context.{Context}
use Rattle.task_events.specs.Contexts.{is_busy, is_expired, is_owned_by, version_kept}
use Rattle.scroll_table.specs.declared.context.PageError.{PageError}
use Rattle.scroll_table.specs.declared.context.PageError.TheVariants.{Missing, Busy}

-- what a task is told that asks for what stands at an id: it is missing, a task uses it, or this is it
abbrev pub answer_for : Option TaskId → ℕ → Option Context → Result Context PageError
answer_for by now None = Err Missing
answer_for by now (Some c) = if is_owned_by by c && not (is_expired now c) then (if is_busy c then Err Busy else Ok c) else Err Missing

-- an answer that lends a context, by what it lends
abbrev pub lent : Result (Bor Context) PageError → Result Context PageError
lent (Ok c) = Ok c.now
lent (Err e) = Err e

-- the least version that a context keeps of a shard of an index
abbrev pub oldest_of : List ℕ → ℕ → FinMap task_id_cmp Context → Option ℕ
oldest_of index shard contexts = reduce min (filter_map (version_kept index shard) (values contexts))
