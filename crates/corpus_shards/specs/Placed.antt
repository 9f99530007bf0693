-- The shards of each index while the lines of the corpus are placed one after the other.
use Rattle.std.specs.Prelude.{◌≡◌, ℕ, ◌<◌, ◌^◌, List, length, Bool, Option, Some, None, map, option_map, if◌then◌else◌, String}
use Rattle.std.specs.List.{list_any, range_with_len}
use Rattle.std.specs.Str.{bytes_eq}
use Rattle.std.specs.HashMap.{HashMap, get_by_text}
use Rattle.std.specs.Global.{Vec}
use Rattle.std.specs.declared.alloc.Global.{Global}
use Rattle.std.specs.declared.hash.FoldHasher.{FoldHasher}
use Rattle.std.specs.declared.hash.BuildHasherDefault.{BuildHasherDefault}
use Rattle.task_ids.specs.declared.corpus.CorpusLine.{CorpusLine}
use Rattle.task_ids.specs.declared.doc.Doc.{Doc}
use Rattle.task_events.specs.Documents.{writes_of}
use Rattle.shard_docs.specs.ShardView.{ShardView}

-- some lines are of this index
abbrev pub has_index : List CorpusLine → List ℕ → Bool
has_index lines index = list_any (λ line. bytes_eq index line.index) lines

-- a shard to which these were written and which has forgotten nothing
abbrev pub shard_with : List Doc → ShardView
shard_with writes = record { writes = writes; oldest = 0 }

-- the shards of an index, by number, where these are the lines
abbrev pub shards_of : List CorpusLine → ℕ → List ℕ → List ShardView
shards_of lines shards index = map (λ shard. shard_with (writes_of (record { lines = lines }) shards index shard)) (range_with_len 0 shards)

-- the shards of an index, if some lines are of it
abbrev pub shards_among : List CorpusLine → ℕ → List ℕ → Option (List ShardView)
shards_among lines shards index = if has_index lines index then Some (shards_of lines shards index) else None

-- no shard has more documents than there are places
abbrev pub AreFew : List CorpusLine → ℕ → Type 0
AreFew lines shards = (index : List ℕ) (shard : ℕ) → length (writes_of (record { lines = lines }) shards index shard) < 2 ^ 32

-- the table has the shards of each index that some lines are of
pub record AreShards (lines : List CorpusLine) (shards : ℕ) (table : HashMap (String Global) (Vec ShardView) (BuildHasherDefault FoldHasher)) : Type 0 where
  pub some_shards : 0 < shards
  pub by_index : (index : List ℕ) → option_map (λ list. list.items) (get_by_text table index) ≡ shards_among lines shards index
  pub few : AreFew lines shards
