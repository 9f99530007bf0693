-- The shards that a worker holds may go to another thread.
use denote.Param.Send.{IsSend, sendable}
use Rattle.std.proofs.Crossing.{crosses}
use Rattle.std.proofs.MapsCrossing as maps
use Rattle.task_ids.proofs.text.Text.TheSendSync as text
use Rattle.shard_docs.proofs.index.Index.TheSendSync as index
use Rattle.shard_docs.proofs.numbers.Numbers.TheSendSync as numbers
use Rattle.held_shards.specs.contracts.HeldShard as HeldShard
use Rattle.held_shards.specs.contracts.HeldShards as HeldShards
use Rattle.shard_docs.specs.contracts.rows.Rows as Rows
use Rattle.shard_docs.specs.contracts.rows.StoredRow as StoredRow
use Rattle.shard_docs.specs.contracts.shard.Shard as Shard
use Rattle.node_link.proofs.DocSends.{doc_field_send}

stored_row_send : IsSend StoredRow.the_row
stored_row_send = search (doc_field_send, sendable, crosses) depth 20

rows_field_send : IsSend (Rows.the_field).row
rows_field_send = search (stored_row_send, sendable, crosses) depth 20

shard_send : IsSend Shard.the_row
shard_send = search (rows_field_send, index.the_field_send, numbers.the_field_send, maps.crosses, sendable, crosses) depth 20

held_shard_send : IsSend HeldShard.the_row
held_shard_send = search (shard_send, text.the_send, sendable, crosses) depth 20

pub held_shards_field_send : IsSend (HeldShards.the_field).row
held_shards_field_send = search (held_shard_send, sendable, crosses) depth 20
