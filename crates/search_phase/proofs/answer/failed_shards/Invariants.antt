use Rattle.std.proofs.Common.{◌≡◌, filter_map, length, take}
use Rattle.std.specs.Prelude.{zip}
use Rattle.search_phase.specs.FetchPhase.{failed_by}
use Rattle.search_phase.proofs.answer.failed_shards.Given as goal

abbrev pub invariant-loop-at : goal.invariant-loop-at
invariant-loop-at l = l.failed.items ≡ filter_map (failed_by l.fetches l.answers) (take (length l.yielded) (zip l.shards l.queries))
