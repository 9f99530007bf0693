use Rattle.std.proofs.Common.{None, Some, sym, ◌∙◌}
use Rattle.world_steps.specs.Alarms.{alarm_at}
use Rattle.world_steps.proofs.Readiness.{noted_alarm}
use Rattle.world_steps.proofs.ready.note_alarm.Goals as goal

pub returns-in_default-clause-known : goal.returns-in_default-clause-known
returns-in_default-clause-known c = noted_alarm c.args.state.now c.args.task None (alarm_at c.args.alarms.now) (alarm_at c.remove.new.self) (sym c.in_default.is ∙ c.alarm_of.ensures) c.remove.ensures.removed

pub returns-in-Ok-clause-known : goal.returns-in-Ok-clause-known
returns-in-Ok-clause-known c = noted_alarm c.args.state.now c.args.task (Some c.in-Some.moment) (alarm_at c.args.alarms.now) (alarm_at c.set.new.self) (sym c.in-Some.is ∙ c.alarm_of.ensures) c.in-Ok.ensures.ok
