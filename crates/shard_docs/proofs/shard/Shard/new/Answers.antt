use Rattle.std.proofs.Common.{rules}
use Rattle.shard_docs.proofs.ShardParts.{no_deaths}
use Rattle.shard_docs.proofs.shard.Shard.new.Goals as goal

pub invariant_of-result : goal.invariant_of-result
invariant_of-result c = (search rules, no_deaths c.new.result c.new-5.result.items c.new.ensures.rows c.new.ensures.oldest c.new-5.ensures.items)
