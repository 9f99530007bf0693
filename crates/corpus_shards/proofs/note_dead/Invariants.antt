use Rattle.std.proofs.Common.{◌≡◌, ℕ, ◌<◌, ◌^◌, true, min, get_or}
use Rattle.shard_docs.specs.ShardView.{empty_shard, has_dead}
use Rattle.corpus_shards.specs.Noted.{KeepsNotes}
use Rattle.corpus_shards.specs.Stored.{is_among}
use Rattle.corpus_shards.proofs.note_dead.Given as goal

-- those so far are noted
abbrev pub invariant-loop-shard : goal.invariant-loop-shard
invariant-loop-shard l = record {
  number : l.number ≡ min l.shard-index 4294967295;
  noted : (k : ℕ) → k < l.shard-index → k < 2 ^ 32 → has_dead (get_or l.shards k empty_shard) ≡ true → is_among l.stale.items l.index k ≡ true;
  still : KeepsNotes l.fn.stale.items l.stale.items;
}
