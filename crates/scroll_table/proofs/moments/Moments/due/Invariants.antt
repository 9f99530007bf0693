-- The node is due.
use Rattle.std.proofs.Common.{◌≡◌, ◌*◌, ◌-◌, ◌<◌, ◌≤◌, true}
use Rattle.scroll_table.specs.Moments.{node_at, is_due}
use Rattle.scroll_table.proofs.moments.Moments.due.Given as goal

abbrev pub invariant-loop-at : goal.invariant-loop-at
invariant-loop-at l = record {
  from : 1 ≤ l.at;
  within : l.at < 2 * l.self.places;
  due : is_due l.now (node_at l.self.nodes.items l.at) ≡ true;
}

abbrev pub decreases-loop-at : goal.decreases-loop-at
decreases-loop-at l = 2 * l.self.places - l.at
