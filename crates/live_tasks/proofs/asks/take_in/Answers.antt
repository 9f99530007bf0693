-- The node that is in the first set and not in the second is that of the ask, where nothing more is awaited from there.
use Rattle.std.proofs.Common.{ap, ◌∙◌}
use Rattle.child_track.specs.NodeSet.{has_node}
use Rattle.child_track.specs.Track.{is_awaited}
use Rattle.live_tasks.proofs.Leaving.{left_by_sets}
use Rattle.live_tasks.proofs.asks.take_in.Goals as goal

pub returns-clause-left : goal.returns-clause-left
returns-clause-left c =
    left_by_sets c.args.track.now c.args.receipt.ask (has_node c.nodes-before.result) (has_node c.nodes.result) c.left.result c.nodes-before.ensures
    (λ n. c.nodes.ensures n ∙ ap (λ t. is_awaited t n) c.in-Ok.ensures.answered) c.requires.nodes c.requires.awaited.1.1 c.left.ensures.left c.left.ensures.none
