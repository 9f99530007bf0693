use Rattle.std.proofs.Common.{◌≡◌, arith, length}
use Rattle.world_steps.specs.Alarms.{alarm_at}
use Rattle.world_steps.proofs.AlarmKeys.{first_there, first_least, none_first}
use Rattle.world_steps.proofs.alarms.Alarms.least.Goals as goal

pub returns-in-Some-clause-there : goal.returns-in-Some-clause-there
returns-in-Some-clause-there c =
    let a = c.args.self.now in
    (c.in-Some.alarm.now.task, first_there a.order (alarm_at a) c.requires.kept c.in-Some.alarm.now c.in-Some.ensures.member)

pub returns-in-Some-clause-least : goal.returns-in-Some-clause-least
returns-in-Some-clause-least c =
    let a = c.args.self.now in
    first_least a.order (alarm_at a) c.requires.kept c.in-Some.alarm.now c.in-Some.ensures.least

pub returns-in-None-clause-none : goal.returns-in-None-clause-none
returns-in-None-clause-none c =
    let a = c.args.self.now in
    let empty : length a.order.keys ≡ 0 = grind (arith, c.in-None.ensures.variant) in
    none_first a.order (alarm_at a) c.requires.kept empty
