-- What the shards end as, once a shard that was lent to be written to is given back.
use Rattle.std.specs.Prelude.{◌≡◌, ℕ, List, Option, OnSome}
use Rattle.std.specs.Borrow.{LendsSo, MutBor, Fml}
use Rattle.shard_docs.specs.contracts.shard.Shard as one
use Rattle.shard_docs.specs.ShardView.{ShardView}
use Rattle.corpus_shards.specs.declared.Shards.{Shards}
use Rattle.corpus_shards.specs.contracts.Shards as all
use Rattle.corpus_shards.specs.Stored.{Replaces}

-- that shard has what was last written through r, and the others are as they were
abbrev pub LendsShard : MutBor Shards → List ℕ → ℕ → Option (MutBor ShardView) → Fml
LendsShard s index shard r = LendsSo all.the_row one.the_row s r (λ n w. OnSome r (Replaces index shard w s.now n)) (λ n. n ≡ s.now)
