-- Each shard is one more.
use Rattle.std.proofs.Common.{sym, ◌∙◌, ap, ◌++◌, [], ◌∷◌, arith}
use Rattle.std.proofs.lemmas.List.FromFn.{map-range_with_len_more}
use Rattle.task_events.specs.declared.reading.ShardRead.TheVariants.{Newest}
use Rattle.search_phase.proofs.reading.newest_shards.Goals as goal

pub loop-shard-preserved : goal.loop-shard-preserved
loop-shard-preserved c =
    c.in_ok-push.ensures.items ∙ ap (λ l. l ++ Newest c.loop-shard.shard ∷ []) c.loop-shard.invariant
    ∙ sym (map-range_with_len_more Newest 0 c.loop-shard.shard c.loop-shard.shard (omega arith))
