use Rattle.std.proofs.Common.{◌≡◌, map, take}
use Rattle.serde_json.specs.View.{view}
use Rattle.line_print.specs.Errors.{failed_shard}
use Rattle.line_print.proofs.errors.failed_shards.Given as goal

abbrev pub invariant-loop-shard : goal.invariant-loop-shard
invariant-loop-shard l = map view l.values.items ≡ map failed_shard (take l.shard-index l.failed)
