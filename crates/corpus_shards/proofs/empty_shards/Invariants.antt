use Rattle.std.proofs.Common.{◌≡◌, map}
use Rattle.std.specs.List.{range_with_len}
use Rattle.shard_docs.specs.ShardView.{empty_shard}
use Rattle.corpus_shards.proofs.empty_shards.Given as goal

abbrev pub invariant-loop : goal.invariant-loop
invariant-loop l = l.shards.items ≡ map (λ _. empty_shard) (range_with_len 0 l.counter)
