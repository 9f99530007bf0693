use Rattle.std.proofs.Common.{ℕ, arith, ap}
use Rattle.child_track.specs.Track.{unanswered_at}
use Rattle.child_track.proofs.NodeLemmas.{has_node-none}
use Rattle.child_track.proofs.Awaited.{count_at_none}
use Rattle.child_track.proofs.Gathered.{gathered_yes, gathered_no, gathered_none, gathered_all}
use Rattle.child_track.proofs.track.ChildTrack.nodes.Goals as goal
use Rattle.child_track.proofs.track.ChildTrack.nodes.Goals.{then-is_awaited, else-is_awaited}

pub loop-node-init : goal.loop-node-init
loop-node-init c n =
    let asks_are = ap (λ t. t.asks) c.self.view_is in
    let of_nodes = rw asks_are at c.self.invariant.of_nodes in
    let count = λ (m : ℕ). unanswered_at m c.args.self.now in
    gathered_none count n _ (has_node-none n) (λ below. count_at_none _ n of_nodes (λ node. omega (arith, below, node.0)))

pub loop-node-preserved : goal.loop-node-preserved
loop-node-preserved c n =
    let asks_are = ap (λ t. t.asks) c.self.view_is in
    let count = λ (m : ℕ). unanswered_at m c.args.self.now in
    let before = c.loop-node.invariant n in
    let counted = rw asks_are at (c.self.invariant.at_each c.loop-node.node c.loop-node-test.true) in
    elim c.if-is_awaited.branch [
      | then-is_awaited w ↦ (let more = w.with-nodes.ensures n in rw w.nodes-is (gathered_yes count c.loop-node.node n _ _ before more (omega arith)))
      | else-is_awaited w ↦ (rw w.nodes-is (gathered_no count c.loop-node.node n _ before (omega arith)))
    ]

pub returns : goal.returns
returns c n =
    let asks_are = ap (λ t. t.asks) c.self.view_is in
    let of_nodes = rw asks_are at c.self.invariant.of_nodes in
    let count = λ (m : ℕ). unanswered_at m c.args.self.now in
    gathered_all count c.loop-node.node n _ (c.loop-node.invariant n)
    (λ above. count_at_none _ n of_nodes (λ node. omega (arith, above, node.1)))
