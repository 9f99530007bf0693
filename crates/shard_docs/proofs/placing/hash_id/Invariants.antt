use Rattle.std.proofs.Common.{◌≡◌, take}
use Rattle.task_ids.specs.Placing as placed
use Rattle.shard_docs.proofs.placing.hash_id.Given as goal

-- the hash of the bytes so far
abbrev pub invariant-loop-byte : goal.invariant-loop-byte
invariant-loop-byte l = l.hash ≡ placed.hash_id (take l.byte-index l.id)
