use Rattle.shard_docs.specs.Numbers.{GainsOnly}
use Rattle.shard_docs.proofs.Gaining.{OfSource}
use Rattle.shard_docs.proofs.numbers.Numbers.add.Given as goal

-- what was added so far is of the row
abbrev pub invariant-loop-member : goal.invariant-loop-member
invariant-loop-member l = GainsOnly (OfSource l.place l.source) l.initial.self l.self
