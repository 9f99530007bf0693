use Rattle.shard_docs.specs.Numbers.{AreNumbersOf}
use Rattle.shard_docs.proofs.shard.numbers_of.Given as goal

abbrev pub invariant-loop-row : goal.invariant-loop-row
invariant-loop-row l = AreNumbersOf l.rows l.numbers
