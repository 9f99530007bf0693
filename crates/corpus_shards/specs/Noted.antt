-- Which shards are noted while those are looked for in which rows have died.
use Rattle.std.specs.Prelude.{◌≡◌, ℕ, ◌<◌, ◌^◌, List, true, slice_index_or}
use Rattle.shard_docs.specs.ShardView.{ShardView, empty_shard, has_dead}
use Rattle.corpus_shards.specs.declared.Stale.{Stale}
use Rattle.corpus_shards.specs.Stored.{is_among}

-- each of the shards of an index is noted in which a row has died; its number is one of 32 bits
abbrev pub AreNoted : List Stale → List ℕ → List ShardView → Type 0
AreNoted notes index shards = (number : ℕ) → number < 2 ^ 32 → has_dead (slice_index_or shards number empty_shard) ≡ true → is_among notes index number ≡ true

-- what was noted still is
abbrev pub KeepsNotes : List Stale → List Stale → Type 0
KeepsNotes old new = (index : List ℕ) (shard : ℕ) → is_among old index shard ≡ true → is_among new index shard ≡ true
