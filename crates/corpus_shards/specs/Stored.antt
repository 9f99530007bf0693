-- What the shards of all indices have.
use Rattle.std.specs.Prelude.{◌≡◌, ℕ, ◌<◌, ◌≤◌, List, length, map, slice_index_or, Bool, not, ◌&&◌, ◌==◌, is_some, option_map, Option, Some, None, true, false, IfSome, min, max, if◌then◌else◌}
use Rattle.std.specs.List.{list_any}
use Rattle.std.specs.Option.{option_map_or}
use Rattle.std.specs.Str.{bytes_eq}
use Rattle.std.specs.HashMap.{get_by_text}
use Rattle.std.specs.HashSet.{contains_text}
use Rattle.task_ids.specs.declared.corpus.Corpus.{Corpus}
use Rattle.task_ids.specs.declared.corpus.CorpusLine.{CorpusLine}
use Rattle.task_ids.specs.declared.doc.Doc.{Doc}
use Rattle.task_events.specs.Documents.{writes_of}
use Rattle.shard_docs.specs.ShardView.{ShardView, empty_shard, dead_rows, has_dead}
use Rattle.shard_docs.specs.Shown.{ShowsFrom}
use Rattle.corpus_shards.specs.Placed.{AreFew}
use Rattle.corpus_shards.specs.declared.Shards.{Shards}
use Rattle.corpus_shards.specs.declared.Stale.{Stale}

-- the index has its shards
abbrev pub has_shards : Shards → List ℕ → Bool
has_shards s index = is_some (get_by_text s.by_index index)

-- it has had them from the start
abbrev pub was_there : Shards → List ℕ → Bool
was_there s index = has_shards s index && not (contains_text s.made index)

-- no index was made yet
abbrev pub NoneMade : Shards → Type 0
NoneMade s = (index : List ℕ) → contains_text s.made index ≡ false

-- a shard of an index, which is empty where there is no such shard
abbrev pub shard_in : Shards → List ℕ → ℕ → ShardView
shard_in s index shard = option_map_or (λ list. slice_index_or list.items shard empty_shard) (get_by_text s.by_index index) empty_shard

-- the writes of a shard of an index
abbrev pub writes_in : Shards → List ℕ → ℕ → List Doc
writes_in s index shard = (shard_in s index shard).writes

-- of each shard of each index the version from which on it shows what was written, and below which it has forgotten what is dead
abbrev pub ShownFrom : Type 0
ShownFrom = List ℕ → ℕ → ℕ

-- of one shard at least this version, and of the others as before
abbrev pub raised : List ℕ → ℕ → ℕ → ShownFrom → ShownFrom
raised index shard from oldest q k = if bytes_eq index q && (shard == k) then max (oldest q k) from else oldest q k

-- Each shard of each index shows, from a version on, what is written, of which the corpus is all lines so far: those that were read, and
-- one for each document that was written since.
pub record HasWritten (corpus : Corpus) (shards : ℕ) (oldest : ShownFrom) (s : Shards) : Type 0 where
  pub count : s.count ≡ shards
  pub some : 0 < shards
  -- as many documents were written
  pub low : (index : List ℕ) (shard : ℕ) → oldest index shard ≤ length (writes_of corpus shards index shard)
  pub each : (index : List ℕ) (shard : ℕ) → ShowsFrom (oldest index shard) (writes_of corpus shards index shard) (writes_in s index shard)
  pub own : (index : List ℕ) (shard : ℕ) → (shard_in s index shard).oldest ≡ oldest index shard
  pub as_many : (index : List ℕ) → IfSome (get_by_text s.by_index index) (λ list. length list.items ≡ shards)
  pub few : AreFew corpus.lines shards
  pub empty : s.empty ≡ empty_shard

-- a shard of an index is among those that are noted
abbrev pub is_among : List Stale → List ℕ → ℕ → Bool
is_among notes index shard = list_any (λ note. bytes_eq index note.index && (shard == note.shard)) notes

abbrev pub is_noted : Shards → List ℕ → ℕ → Bool
is_noted s index shard = is_among s.stale.items index shard

-- each shard is noted in which a row has died that is not forgotten
abbrev pub AllNoted : Shards → Type 0
AllNoted s = (index : List ℕ) (shard : ℕ) → has_dead (shard_in s index shard) ≡ true → is_noted s index shard ≡ true

-- t is s, but that further shards may be noted
pub record IsNotedAs (s t : Shards) : Type 0 where
  pub written : (corpus : Corpus) (shards : ℕ) (oldest : ShownFrom) → HasWritten corpus shards oldest s → HasWritten corpus shards oldest t
  pub from_start : (q : List ℕ) → was_there t q ≡ was_there s q
  pub shards : (q : List ℕ) (k : ℕ) → shard_in t q k ≡ shard_in s q k
  pub still : (q : List ℕ) (k : ℕ) → is_noted s q k ≡ true → is_noted t q k ≡ true

-- ---- forgetting

-- the version that is kept of a shard, or its newest one where none is
abbrev pub bound_of : Option ℕ → ShardView → ℕ
bound_of (Some version) shard = min version (length shard.writes)
bound_of None shard = length shard.writes

-- a shard has forgotten all rows that are dead at a version
abbrev pub HasForgotten : ℕ → ShardView → Type 0
HasForgotten version shard = dead_rows version shard.writes ≤ dead_rows shard.oldest shard.writes

-- t is s after a shard of an index has forgotten the rows that are dead at a version
pub record Forgets (index : List ℕ) (shard version : ℕ) (s t : Shards) : Type 0 where
  pub written : (corpus : Corpus) (shards : ℕ) (oldest : ShownFrom) → HasWritten corpus shards oldest s → HasWritten corpus shards (raised index shard version oldest) t
  pub here : (shard_in t index shard).oldest ≡ max (shard_in s index shard).oldest version
  pub as_many : length (writes_in t index shard) ≡ length (writes_in s index shard)
  pub elsewhere : (q : List ℕ) (k : ℕ) → (bytes_eq index q && (shard == k)) ≡ false → shard_in t q k ≡ shard_in s q k
  pub from_start : (q : List ℕ) → was_there t q ≡ was_there s q

-- the lines of documents that are written to an index
abbrev pub lines_of : List ℕ → List Doc → List CorpusLine
lines_of index docs = map (λ doc. record { index = index; doc = doc }) docs

-- t is s after one shard of an index has become this
pub record Replaces (index : List ℕ) (shard : ℕ) (left : ShardView) (s t : Shards) : Type 0 where
  pub here : shard_in t index shard ≡ left
  pub elsewhere : (q : List ℕ) (k : ℕ) → (bytes_eq index q && (shard == k)) ≡ false → shard_in t q k ≡ shard_in s q k
  pub as_many : (q : List ℕ) → option_map (λ list. length list.items) (get_by_text t.by_index q) ≡ option_map (λ list. length list.items) (get_by_text s.by_index q)
  pub from_start : (q : List ℕ) → was_there t q ≡ was_there s q
  pub count : t.count ≡ s.count
  pub empty : t.empty ≡ s.empty
  pub stale : t.stale ≡ s.stale
