-- What the shards have that a data worker holds.
use Rattle.std.specs.Prelude.{◌≡◌, ℕ, ◌==◌, ◌&&◌, ◌++◌, ◌∷◌, [], Bool, false, List, slice_index_or, if◌then◌else◌}
use Rattle.std.specs.List.{list_any, position_or_len}
use Rattle.std.specs.Str.{bytes_eq}
use Rattle.std.specs.Vec.{with_item}
use Rattle.task_ids.specs.declared.corpus.CorpusLine.{CorpusLine}
use Rattle.task_ids.specs.declared.doc.Doc.{Doc}
use Rattle.task_events.specs.Documents.{writes_of}
use Rattle.shard_docs.specs.ShardView.{ShardView, empty_shard}
use Rattle.held_shards.specs.declared.HeldShard.{HeldShard}
use Rattle.held_shards.specs.declared.HeldShards.{HeldShards}

-- the shard of this number is held
abbrev pub holds : HeldShards → ℕ → Bool
holds held number = list_any (λ n. n == number) held.numbers.items

-- it is the shard of this number of the index
abbrev pub is_row : List ℕ → ℕ → HeldShard → Bool
is_row index number row = bytes_eq index row.index && (row.number == number)

abbrev pub no_row : HeldShard
no_row = record { index = []; number = 0; shard = empty_shard }

-- the row at a place
abbrev pub row_of : HeldShards → ℕ → HeldShard
row_of held place = slice_index_or held.rows.items place no_row

abbrev pub shard_of_row : HeldShards → ℕ → ShardView
shard_of_row held place = (row_of held place).shard

-- the shard of an index, which is empty where it was not used
abbrev pub shard_at : HeldShards → List ℕ → ℕ → ShardView
shard_at held index number = shard_of_row held (position_or_len (is_row index number) held.rows.items)

-- the shard at a place has become this
abbrev pub with_shard : HeldShards → ℕ → ShardView → HeldShards
with_shard held place shard = record held { rows = with_item held.rows place (record (row_of held place) { shard = shard }) }

-- no shard has another document
abbrev pub SameShards : HeldShards → HeldShards → Type 0
SameShards old new = (index : List ℕ) (number : ℕ) → shard_at new index number ≡ shard_at old index number

-- one shard has become this, and the others are as they were
pub record Replaces (index : List ℕ) (number : ℕ) (shard : ShardView) (old new : HeldShards) : Type 0 where
  pub here : shard_at new index number ≡ shard
  pub elsewhere : (q : List ℕ) (k : ℕ) → (bytes_eq q index && (number == k)) ≡ false → shard_at new q k ≡ shard_at old q k

-- a document was written to one shard
abbrev pub WritesTo : List ℕ → ℕ → Doc → HeldShards → HeldShards → Type 0
WritesTo index number doc old new = let shard = shard_at old index number in Replaces index number (record shard { writes = shard.writes ++ doc ∷ [] }) old new

-- the shard with the lines of an index that lie in it, which has forgotten nothing
abbrev pub shard_with : List CorpusLine → ℕ → List ℕ → ℕ → ShardView
shard_with lines count index number = record { writes = writes_of (record { lines = lines }) count index number; oldest = 0 }

-- each shard that is held has exactly the lines that lie in it, and no other has any
abbrev pub HasLines : List CorpusLine → ℕ → HeldShards → Type 0
HasLines lines count held = (index : List ℕ) (number : ℕ)
    → shard_at held index number ≡ (if holds held number then shard_with lines count index number else empty_shard)
