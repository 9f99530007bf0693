use Rattle.shard_docs.specs.Places.{IsExactFor}
use Rattle.shard_docs.proofs.KeptIndexed.{HasFirst}
use Rattle.shard_docs.proofs.shard.index_of.Given as goal

abbrev pub invariant-loop-row : goal.invariant-loop-row
invariant-loop-row l = HasFirst l.rows l.row-items l.row-index l.index × IsExactFor l.rows l.index
