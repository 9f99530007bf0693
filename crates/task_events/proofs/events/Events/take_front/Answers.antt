use Rattle.std.proofs.Common.{◌≤◌, ◌-◌, length, reverse, drop, ap, ◌∙◌, arith}
use Rattle.std.proofs.lemmas.List.{length-take}
use Rattle.task_events.proofs.Pieces.{part_behind}
use Rattle.task_events.proofs.events.Events.take_front.Goals as goal

pub returns-clause-left : goal.returns-clause-left
returns-clause-left c =
    let events = reverse c.self.inside.history.now in
    let from = c.self.inside.from in
    let to = c.self.inside.to in
    let fits : c.args.count ≤ to - from =
    omega (arith, c.requires, ap length c.self.view_is, length-take (to - from) (drop from events)) in
    part_behind events from to c.args.count fits ∙ ap (drop c.args.count) c.self.view_is
