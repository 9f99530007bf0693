-- Where a document lies: its hash, its shard, its slice, and the node of a shard.
use Rattle.std.specs.Prelude.{ℕ, ◌+◌, ◌*◌, ◌/◌, ◌%◌, ◌^◌, List, fold}

-- from 0, 31 times the hash so far and the next byte, below 2^32
abbrev pub hash_id : List ℕ → ℕ
hash_id id = fold (λ hash byte. (31 * hash + byte) % 2 ^ 32) 0 id

-- the shard of a document, of so many
abbrev pub shard_of : List ℕ → ℕ → ℕ
shard_of id shards = hash_id id % shards

-- the slice of a document, of so many, where its index has so many shards
abbrev pub slice_of : List ℕ → ℕ → ℕ → ℕ
slice_of id shards slices = hash_id id / shards % slices

-- the node of a shard, of so many
abbrev pub node_of : ℕ → ℕ → ℕ
node_of shard nodes = 1 + shard % nodes
