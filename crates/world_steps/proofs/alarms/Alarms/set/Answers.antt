use Rattle.std.proofs.Common.{◌∙◌, ap, sym}
use Rattle.std.specs.BTreeMap.{get, is_at}
use Rattle.std.specs.Map.{lookup}
use Rattle.task_events.specs.Allowed.{is_number}
use Rattle.world_steps.specs.declared.alarms.Alarm.{Alarm}
use Rattle.std.specs.BTreeSet.{contains}
use Rattle.task_ids.specs.TaskIdOrder.{task_id_cmp}
use Rattle.world_steps.specs.Alarms.{alarm_cmp, alarm_at}
use Rattle.world_steps.proofs.AlarmKeys.{put, put_then, none_then, put_back}
use Rattle.world_steps.proofs.alarms.Alarms.set.Goals as goal

pub returns-in-Ok-insert-clause-kept : goal.returns-in-Ok-insert-clause-kept
returns-in-Ok-insert-clause-kept c =
    let a = c.remove.new.self in
    put (alarm_at a) (get task_id_cmp c.insert-2.new.self) (contains alarm_cmp a.order) (contains alarm_cmp c.insert.new.self) (record { moment = c.args.moment; task = c.args.task }) c.remove.ensures.kept
    (none_then (alarm_at c.args.self.now) (alarm_at a) c.args.task c.remove.ensures.removed) c.in-Ok-insert.ensures.updates.0 c.in-Ok.ensures.updates.0

pub returns-in-Ok-insert-clause-ok : goal.returns-in-Ok-insert-clause-ok
returns-in-Ok-insert-clause-ok c = put_then (alarm_at c.args.self.now) (alarm_at c.remove.new.self) (get task_id_cmp c.insert-2.new.self) c.args.task _ c.remove.ensures.removed c.in-Ok-insert.ensures.updates.0

pub returns-in-Err-insert-clause-kept : goal.returns-in-Err-insert-clause-kept
returns-in-Err-insert-clause-kept c = λ alarm.
    let a = c.remove.new.self in
    let one : Alarm = record { moment = c.args.moment; task = c.args.task } in
    let fresh = c.remove.ensures.kept one ∙ ap (is_number c.args.moment) (none_then (alarm_at c.args.self.now) (alarm_at a) c.args.task c.remove.ensures.removed) in
    put_back (contains alarm_cmp a.order) (contains alarm_cmp c.insert.new.self) (contains alarm_cmp c.remove-in-Err-insert.new.self) one fresh c.in-Ok.ensures.updates.0 c.remove-in-Err-insert.ensures.updates.0 alarm
    ∙ c.remove.ensures.kept alarm ∙ ap (λ entries. is_number alarm.moment (lookup (is_at (task_id_cmp alarm.task)) entries)) (sym c.in-Err-insert.ensures.err)
