-- All that was kept is sent, but for what is kept still.
use Rattle.std.proofs.Common.{length}
use Rattle.node_worker.specs.Posts.{SentBut}
use Rattle.node_worker.proofs.flush.flush.Given as goal

abbrev pub decreases-loop-post : goal.decreases-loop-post
decreases-loop-post g l = length l.kept.items

abbrev pub invariant-loop-post : goal.invariant-loop-post
invariant-loop-post g l = SentBut l.fn.senders.items l.fn.kept.items l.senders.items l.kept.items
