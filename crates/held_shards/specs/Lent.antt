-- What the shards end as, once one that was lent is given back.
use Rattle.std.specs.Prelude.{ℕ}
use Rattle.std.specs.Borrow.{Lends, MutBor, Fml}
use Rattle.shard_docs.specs.contracts.shard.Shard as one
use Rattle.shard_docs.specs.ShardView.{ShardView}
use Rattle.held_shards.specs.declared.HeldShards.{HeldShards}
use Rattle.held_shards.specs.contracts.HeldShards as all
use Rattle.held_shards.specs.Held.{with_shard}

-- the shard at that place is what was last written through r
abbrev pub LendsRow : MutBor HeldShards → ℕ → MutBor ShardView → Fml
LendsRow held place r = Lends all.the_row one.the_row held r (with_shard held.now place)
