use Rattle.std.proofs.Common.{◌≡◌, ◌++◌}
use Rattle.std.specs.Prelude.{map}
use Rattle.run_inboxes.specs.Pairs.{Pairwise}
use Rattle.run_inboxes.specs.Closed.{AllLeft}
use Rattle.run_inboxes.proofs.closing.taken_apart.Given as goal

abbrev pub invariant-loop-ends : goal.invariant-loop-ends
invariant-loop-ends g l =
    (goal.iterator-loop-ends g).can_next l.ends-iterator × (goal.iterator-loop-ends g).is_finite l.ends-iterator
    × (l.yielded ++ l.ends-iterator.rest.items ≡ l.fn.all.items)
    × (l.inboxes.items ≡ map (λ e. e.inbox) l.yielded)
    × Pairwise AllLeft l.yielded l.rows.items
