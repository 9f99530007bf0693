use Rattle.std.proofs.Common.{◌≡◌, ◌∙◌, sym, arith, true}
use Rattle.std.specs.BTreeMap.{get}
use Rattle.std.specs.BTreeSet.{contains}
use Rattle.task_ids.specs.TaskIdOrder.{task_id_cmp}
use Rattle.world_steps.specs.Alarms.{alarm_cmp, alarm_at}
use Rattle.world_steps.proofs.AlarmKeys.{taken, by_id, is_there}
use Rattle.world_steps.proofs.alarms.Alarms.remove.Goals as goal

pub returns-in-Some-clause-kept : goal.returns-in-Some-clause-kept
returns-in-Some-clause-kept c =
    let a = c.args.self.now in
    taken (alarm_at a) (get task_id_cmp c.remove.new.self) (contains alarm_cmp a.order) (contains alarm_cmp c.remove-in-Some.new.self) (record { moment = c.in-Some.moment; task = c.args.task }) c.requires.kept (sym c.in-Some.ensures.value) c.in-Some.ensures.updates.0 c.remove-in-Some.ensures.updates.0

pub returns-in-Some-clause-removed : goal.returns-in-Some-clause-removed
returns-in-Some-clause-removed c = by_id (alarm_at c.args.self.now) (get task_id_cmp c.remove.new.self) c.args.task _ c.in-Some.ensures.updates.0

pub returns-in-Some-clause-fewer : goal.returns-in-Some-clause-fewer
returns-in-Some-clause-fewer c = λ _.
    let a = c.args.self.now in
    let there : c.remove-in-Some.result ≡ true = c.remove-in-Some.ensures.test ∙ is_there a.order (alarm_at a) c.requires.kept c.args.task c.in-Some.moment (sym c.in-Some.ensures.value) in
    let len = rw there at c.remove-in-Some.ensures.len in
    omega (arith, len)

pub returns-in_default-clause-removed : goal.returns-in_default-clause-removed
returns-in_default-clause-removed c = by_id (alarm_at c.args.self.now) (get task_id_cmp c.remove.new.self) c.args.task _ c.in_default.ensures.updates.0
