-- Which tasks wait for which moments.
use Rattle.std.specs.Prelude.{◌≡◌, ℕ, Option}
use Rattle.std.specs.BTreeMap.{get}
use Rattle.std.specs.BTreeSet.{contains}
use Rattle.std.specs.Ordering.{nat_cmp, ordering_then}
use Rattle.std.specs.declared.cmp.Ordering.{Ordering}
use Rattle.task_ids.specs.declared.task_id.TaskId.{TaskId}
use Rattle.task_ids.specs.TaskIdOrder.{task_id_cmp}
use Rattle.task_events.specs.Allowed.{is_number}
use Rattle.world_steps.specs.declared.alarms.Alarm.{Alarm}
use Rattle.world_steps.specs.declared.alarms.Alarms.{Alarms}

-- by moment, and then by task
abbrev pub alarm_cmp : Alarm → Alarm → Ordering
alarm_cmp a b = ordering_then (nat_cmp a.moment b.moment) (task_id_cmp a.task b.task)

-- the moment for which a task waits
abbrev pub alarm_at : Alarms → TaskId → Option ℕ
alarm_at a t = get task_id_cmp a.moments t

-- those in order are the same
abbrev pub AreAlarms : Alarms → Type 0
AreAlarms a = (alarm : Alarm) → contains alarm_cmp a.order alarm ≡ is_number alarm.moment (alarm_at a alarm.task)
