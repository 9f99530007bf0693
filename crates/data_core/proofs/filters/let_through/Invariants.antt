-- Of the rows so far those are kept that the filter lets through.
use Rattle.std.proofs.Common.{◌≡◌, ◌++◌, filter}
use Rattle.tasks_api.specs.Filters.{filter_matches}
use Rattle.data_core.proofs.filters.let_through.Given as goal

abbrev pub invariant-loop-row : goal.invariant-loop-row
invariant-loop-row l =
    goal.iterator-loop-row.can_next l.row-iterator × goal.iterator-loop-row.is_finite l.row-iterator
    × (l.through.items ≡ filter (filter_matches l.wanted) l.yielded)
    × (l.yielded ++ l.row-iterator.rest.items ≡ l.fn.rows.items)
