-- Replies may go to another thread.
use denote.Param.Send.{IsSend, IsSync, sendable}
use Rattle.std.proofs.Crossing.{crosses}
use Rattle.shared_value.proofs.Shared.TheSendSync as shared
use Rattle.task_ids.proofs.items.Items.TheSendSync as items
use Rattle.task_ids.proofs.task_id.TaskId.TheSendSync as task_id
use Rattle.task_ids.proofs.text.Text.TheSendSync as text
use Rattle.task_events.proofs.reply.FailedShard.TheSendSync as failed_shard
use Rattle.task_events.proofs.reply.ShardCount.TheSendSync as shard_count
use Rattle.task_events.proofs.reply.ShardTop.TheSendSync as shard_top
use Rattle.task_events.proofs.request.HitKey.TheSendSync as hit_key
use Rattle.task_events.proofs.tally.Tally.TheSendSync as tally
use Rattle.task_events.specs.contracts.reply.Hit as Hit
use Rattle.task_events.specs.contracts.reply.Reply as Reply
use Rattle.task_events.specs.contracts.reply.SearchReply as SearchReply
use Rattle.node_link.proofs.DocSends.{doc_field_send, doc_field_sync}

pub hit_send : IsSend Hit.the_row
hit_send = search (doc_field_send, text.the_send, text.the_sync, shared.the_send, sendable) depth 20

hit_sync : IsSync Hit.the_row
hit_sync = search (doc_field_sync, text.the_send, text.the_sync, shared.the_sync, sendable) depth 20

search_reply_send : IsSend SearchReply.the_row
search_reply_send = search (hit_send, items.the_send, task_id.the_send, shard_count.the_send, failed_shard.the_send, hit_key.the_send, sendable, crosses) depth 20

search_reply_sync : IsSync SearchReply.the_row
search_reply_sync = search (hit_sync, items.the_sync, task_id.the_sync, shard_count.the_sync, failed_shard.the_sync, hit_key.the_sync, sendable, crosses) depth 20

pub reply_field_send : IsSend (Reply.the_field).row
reply_field_send = search (hit_send, hit_sync, search_reply_send, search_reply_sync, shard_top.the_send, shard_top.the_sync, items.the_send, items.the_sync, failed_shard.the_send, failed_shard.the_sync, tally.the_send, shared.the_send, sendable) depth 20
