use Rattle.std.proofs.Common.{◌≡◌}
use Rattle.by_query.proofs.ChangeLemmas.{HasLooked}
use Rattle.by_query.proofs.writing.write_next.Given as goal

abbrev pub invariant-loop : goal.invariant-loop
invariant-loop l =
    HasLooked l.index l.number l.initial.shard.writes l.initial.left.items l.counter l.shard.writes l.left.items l.notes.items × (l.shard.oldest ≡ l.initial.shard.oldest)
