use Rattle.std.proofs.Common.{refl}
use Rattle.shard_docs.proofs.ShardParts.{alike, alike_deaths}
use Rattle.shard_docs.proofs.shard.Shard.give_back.Goals as goal

pub invariant_of-self-in_default : goal.invariant_of-self-in_default
invariant_of-self-in_default c =
    let now = alike c.self.inside.rows c.sweep.new.self c.self.inside.living c.self.inside.index c.self.inside.spoiled c.self.inside.numbers c.sweep.ensures.rows c.sweep.ensures.oldest c.self.invariant.0 in
    let deaths = alike_deaths c.self.inside.rows c.sweep.new.self c.self.inside.deaths.items c.self.inside.deaths.items c.sweep.ensures.rows c.sweep.ensures.oldest refl c.self.invariant.1 in
    ((now.0, now.1, now.2, now.3, c.numbers_of.ensures), deaths)
