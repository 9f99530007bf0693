use Rattle.std.proofs.Common.{◌≡◌, ◌++◌}
use Rattle.node_worker.proofs.flush.keep.Given as goal

abbrev pub invariant-loop-post : goal.invariant-loop-post
invariant-loop-post g l =
    (goal.iterator-loop-post g).can_next l.post-iterator × (goal.iterator-loop-post g).is_finite l.post-iterator
    × (l.kept.items ≡ l.initial.kept.items ++ l.yielded)
    × (l.yielded ++ l.post-iterator.rest.items ≡ l.fn.posts.items)
