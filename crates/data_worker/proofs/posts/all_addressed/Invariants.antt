-- The letters so far have their inboxes.
use Rattle.std.proofs.Common.{◌≡◌, ◌++◌, filter_map}
use Rattle.data_worker.specs.Posts.{addressed}
use Rattle.data_worker.proofs.posts.all_addressed.Given as goal

abbrev pub invariant-loop-post : goal.invariant-loop-post
invariant-loop-post g l =
    (goal.iterator-loop-post g).can_next l.post-iterator × (goal.iterator-loop-post g).is_finite l.post-iterator
    × (l.posts.items ≡ filter_map (addressed l.nodes l.workers) l.yielded)
    × (l.yielded ++ l.post-iterator.rest.items ≡ l.fn.gave.items)
