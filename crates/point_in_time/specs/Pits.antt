-- What contracts see of the points in time of a node, each as a context that belongs to no task and that no task has for itself.
use Rattle.std.specs.Prelude.{ℕ, Bool, false, Option, Some, None, Result, Ok, Err, unwrap_or, refl, if◌then◌else◌, nat_eq, length}
use Rattle.std.specs.Borrow.{Bor}
use Rattle.std.specs.Coded.{Coded, code_by, coded×}
use Rattle.std.specs.Option.{option_or}
use Rattle.std.specs.FinMap.{FinMap, code, empty, get}
use Rattle.task_ids.specs.declared.task_id.TaskId.{TaskId}
use Rattle.task_ids.specs.TaskIdOrder.{task_id_cmp, coded_task_id}
use Rattle.task_events.specs.declared.context.Context.{Context}
use Rattle.task_events.specs.contracts.context.Context as context
use Rattle.task_events.specs.declared.reply.SearchReply.{SearchReply}
use Rattle.task_events.specs.declared.request.SearchAsk.{SearchAsk}
use Rattle.task_events.specs.Contexts.{is_expired}
use Rattle.point_in_time.specs.declared.cursors.Cursor.{Cursor}
use Rattle.point_in_time.specs.contracts.cursors.Cursor as cursor
use Rattle.point_in_time.specs.declared.pit.Missing.{Missing}
use Rattle.point_in_time.specs.declared.pit.Pit.{Pit}

-- ---- one point in time

abbrev pub as_context : Pit → Context
as_context p = record { id = p.id; ask = p.ask; shards = p.shards; after = None; keep_ms = Some p.keep_ms; last_ms = p.last_ms; owner = None; busy = None }

-- what the end of the task that opens it leaves, with this reply and at this moment: the shards that were read, where none failed
abbrev pub opened : TaskId → SearchAsk → SearchReply → ℕ → ℕ → Option Pit
opened id ask reply keep now = if nat_eq (length reply.failed) 0 then Some (record { id = id; ask = ask; shards = reply.shards; keep_ms = keep; last_ms = now }) else None

-- a search reads it at this moment, and it has another keep-alive where one is given
abbrev pub read_at : ℕ → Option ℕ → Context → Context
read_at now keep c = record c { keep_ms = option_or keep c.keep_ms; last_ms = now }

-- one is there that has expired
abbrev pub gone_by : ℕ → Option Context → Bool
gone_by now None = false
gone_by now (Some c) = is_expired now c

-- an answer that lends one, by what it lends
abbrev pub found : Result (Bor Context) Missing → Option Context
found (Ok c) = Some c.now
found (Err e) = None

-- ---- the cursors that searches left

abbrev pub CursorsOfAll : Type 0
CursorsOfAll = FinMap task_id_cmp (FinMap task_id_cmp Cursor)

abbrev pub coded_cursors : Coded CursorsOfAll
coded_cursors = code coded_task_id (code coded_task_id cursor.the_row.coded)

-- those that were left at a point in time
abbrev pub cursors_at : TaskId → CursorsOfAll → FinMap task_id_cmp Cursor
cursors_at id cursors = unwrap_or (get cursors id) empty

-- the one that a search left at a point in time, where it left one
abbrev pub cursor_at : TaskId → TaskId → CursorsOfAll → Option Cursor
cursor_at id search cursors = get (cursors_at id cursors) search

-- ---- all of a node

pub record Pits : Type 0 where
  -- of each task that opened a point in time that stands, this one
  pub standing : FinMap task_id_cmp Context
  -- of each of these tasks, the cursors that were left there
  pub cursors : CursorsOfAll

abbrev pub no_pits : Pits
no_pits = record { standing = empty; cursors = empty }

abbrev pub coded_pits : Coded Pits
coded_pits =
    code_by (FinMap task_id_cmp Context × CursorsOfAll) (coded× (code coded_task_id context.the_row.coded) coded_cursors)
    (λ p. (p.standing, p.cursors)) (λ p. record { standing = p.0; cursors = p.1 }) (λ _. refl)
