use Rattle.std.proofs.Common.{◌≡◌, filter_map, length, take}
use Rattle.std.specs.Prelude.{zip}
use Rattle.search_phase.specs.FetchPhase.{count_for}
use Rattle.search_phase.proofs.answer.counts_of.Given as goal

abbrev pub invariant-loop-at : goal.invariant-loop-at
invariant-loop-at l = l.counts.items ≡ filter_map count_for (take (length l.yielded) (zip l.shards l.queries))
