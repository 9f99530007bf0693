use Rattle.std.proofs.Common.{◌≡◌, ◌||◌, ℕ, List, take}
use Rattle.std.specs.List.{list_any}
use Rattle.std.specs.Str.{bytes_eq}
use Rattle.task_ids.specs.declared.corpus.Corpus.{Corpus}
use Rattle.corpus_shards.specs.Stored.{ShownFrom, HasWritten, shard_in, was_there, NoneMade}
use Rattle.corpus_shards.proofs.Shards.know_all.Given as goal

-- the indices so far are there
abbrev pub invariant-loop-index : goal.invariant-loop-index
invariant-loop-index l =
    NoneMade l.self
    × ((q : List ℕ) → was_there l.self q ≡ was_there l.fn.self q || list_any (bytes_eq q) (take l.index-index l.indices))
    × ((corpus : Corpus) (shards : ℕ) (oldest : ShownFrom) → HasWritten corpus shards oldest l.fn.self → HasWritten corpus shards oldest l.self)
    × ((q : List ℕ) (shard : ℕ) → shard_in l.self q shard ≡ shard_in l.fn.self q shard)
    × (l.self.stale ≡ l.fn.self.stale)
