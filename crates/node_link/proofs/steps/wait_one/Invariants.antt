use Rattle.std.proofs.Common.{◌≡◌}
use Rattle.crossbeam_channel.specs.Claims.{view, IsSeatAt}
use Rattle.crossbeam_channel.specs.Ends.{receives_on}
use Rattle.node_link.proofs.steps.wait_one.Given as goal

abbrev pub invariant-loop : goal.invariant-loop
invariant-loop g l =
    (goal.iterator-loop g).can_next l.iterator' × (goal.iterator-loop g).is_finite l.iterator'
    × IsSeatAt (receives_on l.mouth) l.pass × (view l.pass ≡ view l.initial.pass)
