-- The data workers so far have their letters.
use Rattle.std.proofs.Common.{◌≡◌, ◌++◌, map}
use Rattle.node_link.specs.declared.body.Body.TheVariants as says
use Rattle.run_book.specs.Posts.{data_workers, post}
use Rattle.run_book.proofs.book.Book.filter_posts.Given as goal

abbrev pub invariant-loop-to : goal.invariant-loop-to
invariant-loop-to g l =
    (goal.iterator-loop-to g).can_next l.to-iterator × (goal.iterator-loop-to g).is_finite l.to-iterator
    × (l.posts.items ≡ map (λ to. post to (says.CancelMatching l.cancel l.filter l.wait)) l.yielded)
    × (l.yielded ++ l.to-iterator.rest.items ≡ data_workers l.self.nodes l.self.workers)
