-- The control workers so far are told.
use Rattle.std.proofs.Common.{◌≡◌}
use Rattle.node_worker.specs.ControlPosts.{left_posts}
use Rattle.node_worker.proofs.control_posts.left_posts.Given as goal

abbrev pub invariant-loop-before : goal.invariant-loop-before
invariant-loop-before g l = l.posts.items ≡ left_posts l.workers l.node l.before
