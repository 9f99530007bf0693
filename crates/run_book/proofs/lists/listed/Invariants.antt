-- The rows so far are there that go on.
use Rattle.std.proofs.Common.{◌≡◌, ◌++◌, []}
use Rattle.run_book.specs.Listing.{with_rows}
use Rattle.run_book.proofs.lists.listed.Given as goal

abbrev pub invariant-loop-row : goal.invariant-loop-row
invariant-loop-row l =
    goal.iterator-loop-row.can_next l.row-iterator × goal.iterator-loop-row.is_finite l.row-iterator
    × (l.all ≡ with_rows l.now [] l.yielded)
    × (l.yielded ++ l.row-iterator.rest.items ≡ l.fn.rows.items)
