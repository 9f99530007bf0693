-- Which documents a shard of an index has.
use Rattle.std.specs.Prelude.{ℕ, List, [], ◌&&◌, ◌==◌, map, filter, Option, Some, None}
use Rattle.std.specs.Str.{bytes_eq}
use Rattle.task_ids.specs.declared.cluster.Cluster.{Cluster}
use Rattle.task_ids.specs.declared.corpus.Corpus.{Corpus}
use Rattle.task_ids.specs.declared.doc.Doc.{Doc}
use Rattle.task_ids.specs.Placing.{shard_of}

-- The writes of a shard of an index, where an index has so many shards: the corpus lines of that index whose id has that shard, in order.
abbrev pub writes_of : Corpus → ℕ → List ℕ → ℕ → List Doc
writes_of corpus shards index shard =
    map (λ line. line.doc) (filter (λ line. bytes_eq index line.index && (shard_of line.doc.id shards == shard)) corpus.lines)

-- the writes of a shard of a cluster's index, where one is meant
abbrev pub writes_at : Cluster → Corpus → Option (List ℕ × ℕ) → List Doc
writes_at cluster corpus None = []
writes_at cluster corpus (Some place) = writes_of corpus cluster.shards place.0 place.1
