use Rattle.std.proofs.Common.{◌≡◌, ◌<◌, Some, reverse, slice_get, sym, ◌∙◌, arith}
use Rattle.task_events.proofs.Pieces.{part_first}
use Rattle.task_events.proofs.events.EventsIterator.next.Goals as goal

pub returns-clause-steps : goal.returns-clause-steps
returns-clause-steps c =
    let events = reverse c.self.inside.history.now in
    let from = c.self.inside.from in
    let to = c.self.inside.to in
    let event : Some c.in_ok-event.event.now ≡ slice_get events from = c.in_ok-event.ensures in
    let ahead : from < to = omega (arith, c.if-self.false, c.self.invariant.0) in
    sym c.self.view_is ∙ part_first events from to c.in_ok-event.event.now event ahead
