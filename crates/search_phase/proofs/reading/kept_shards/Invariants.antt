use Rattle.std.proofs.Common.{◌≡◌, map, take}
use Rattle.task_events.specs.declared.reading.ShardRead.TheVariants.{Kept}
use Rattle.search_phase.proofs.reading.kept_shards.Given as goal

abbrev pub invariant-loop-count : goal.invariant-loop-count
invariant-loop-count l = l.all.items ≡ map Kept (take l.count-index l.counts)
