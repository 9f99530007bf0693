use Rattle.std.proofs.Common.{◌≡◌, take, map}
use Rattle.query_match.specs.Sorting.{part_at}
use Rattle.doc_match.proofs.keys.sort_key.Given as goal

abbrev pub invariant-loop-by : goal.invariant-loop-by
invariant-loop-by l = l.parts.items ≡ map (part_at l.source) (take l.by-index l.sort)
