use Rattle.std.proofs.Common.{ap, ◌∙◌}
use Rattle.task_events.specs.Contexts.{unexpired}
use Rattle.point_in_time.proofs.table.PitTable.peek.Goals as goal

pub returns-in-Some : goal.returns-in-Some
returns-in-Some c = c.unexpired.ensures ∙ ap (unexpired c.args.now) c.in-Some.ensures

pub returns-in-None : goal.returns-in-None
returns-in-None c = ap (unexpired c.args.now) c.in-None.ensures
