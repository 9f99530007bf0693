-- The acts so far have their letters, and the others name cancels of the run.
use Rattle.std.proofs.Common.{◌≡◌, ◌++◌, filter_map, All}
use Rattle.control_worker.specs.Lawful.{IsLawfulAct}
use Rattle.node_worker.specs.ControlPosts.{act_post}
use Rattle.node_worker.proofs.control_posts.act_posts.Given as goal

abbrev pub invariant-loop-act : goal.invariant-loop-act
invariant-loop-act g l =
    (goal.iterator-loop-act g).can_next l.act-iterator × (goal.iterator-loop-act g).is_finite l.act-iterator
    × All (IsLawfulAct g.N.BoardName.allowed) l.act-iterator.rest.items
    × (l.posts.items ≡ filter_map (act_post l.workers l.nodes l.node) l.yielded)
    × (l.yielded ++ l.act-iterator.rest.items ≡ l.fn.acts.items)
