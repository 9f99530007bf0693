use Rattle.std.proofs.Common.{rules, ◌≡◌, ◌<◌, ◌-◌, get_or, length, Some, None}
use Rattle.child_track.proofs.Answered.{CountsAreRight-answered}
use Rattle.child_track.proofs.track.ChildTrack.answer.Goals as goal

pub invariant_of-self : goal.invariant_of-self
invariant_of-self c =
    let within : c.ask-ask.result - 1 < length c.self.inside.asks.items = search rules in
    let was : get_or c.self.inside.asks.items (c.ask-ask.result - 1) None ≡ Some c.in-Some-Some.node = search rules in
    CountsAreRight-answered _ _ _ _ _ c.self.invariant within was (search rules)
