use Rattle.std.proofs.Common.{take}
use Rattle.corpus_shards.specs.Placed.{AreShards}
use Rattle.corpus_shards.proofs.Shards.new.Given as goal

abbrev pub invariant-loop-line : goal.invariant-loop-line
invariant-loop-line l = AreShards (take l.line-index l.line-items) l.count l.by_index
