use Rattle.std.proofs.Common.{◌≡◌}
use Rattle.std.specs.List.{flat_map, range_with_len}
use Rattle.task_events.specs.BulkTask.{part_with, docs_in}
use Rattle.reindex.proofs.batch.parts_of.Given as goal

abbrev pub invariant-loop-shard : goal.invariant-loop-shard
invariant-loop-shard l = l.parts.items ≡ flat_map (λ shard. part_with l.fn.ask.dest shard (docs_in l.fn.ask.docs l.fn.shards shard)) (range_with_len 0 l.shard)
