use Rattle.std.proofs.Common.{◌≡◌, ◌≤◌, ◌∙◌, sym, arith, length, rules}
use Rattle.world_steps.specs.Alarms.{alarm_at}
use Rattle.world_steps.proofs.AlarmKeys.{first_there, first_least, none_first}
use Rattle.world_steps.proofs.alarms.Alarms.take_due.Goals as goal

pub returns-in_default-clause-none : goal.returns-in_default-clause-none
returns-in_default-clause-none c = λ q moment there.
    let a = c.args.self.now in
    let empty : length a.order.keys ≡ 0 = search rules in
    absurd (let none = sym there ∙ none_first a.order (alarm_at a) c.requires.kept empty q in cc)

pub returns-then-now-alarm-clause-none : goal.returns-then-now-alarm-clause-none
returns-then-now-alarm-clause-none c = λ q moment there.
    let a = c.args.self.now in
    let low : c.in-Some.alarm.moment ≤ moment = first_least a.order (alarm_at a) c.requires.kept c.in-Some.alarm (search rules) q moment there in
    omega (arith, low, c.if-now-alarm.true)

pub returns-clause-due : goal.returns-clause-due
returns-clause-due c =
    let a = c.args.self.now in
    (c.in-Some.alarm.moment, first_there a.order (alarm_at a) c.requires.kept c.in-Some.alarm (search rules), omega arith)
