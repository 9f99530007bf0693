use Rattle.std.proofs.Common.{◌≡◌, drop}
use Rattle.query_match.specs.Picks.{first_pick}
use Rattle.query_match.specs.View.{queries_view}
use Rattle.query_match.proofs.pick.first_pick.Given as goal

-- the clauses so far pick nothing
abbrev pub invariant-loop-node : goal.invariant-loop-node
invariant-loop-node l = first_pick (queries_view l.nodes) ≡ first_pick (queries_view (drop l.node-index l.nodes))
