use Rattle.std.proofs.Common.{◌≡◌, map}
use Rattle.std.specs.List.{range_with_len}
use Rattle.task_events.specs.declared.reading.ShardRead.TheVariants.{Newest}
use Rattle.search_phase.proofs.reading.newest_shards.Given as goal

abbrev pub invariant-loop-shard : goal.invariant-loop-shard
invariant-loop-shard l = l.all.items ≡ map Newest (range_with_len 0 l.shard)
