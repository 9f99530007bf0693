-- The work of a reindex, of its slices and of its bulks may go to another thread.
use denote.Param.Send.{IsSend, sendable}
use Rattle.std.proofs.Crossing.{crosses}
use Rattle.shared_value.proofs.Shared.TheSendSync as shared
use Rattle.task_ids.proofs.items.Items.TheSendSync as items
use Rattle.task_ids.proofs.task_id.TaskId.TheSendSync as task_id
use Rattle.task_ids.proofs.text.Text.TheSendSync as text
use Rattle.task_events.proofs.reply.Counts.TheSendSync as counts
use Rattle.throttle.proofs.rate.Rate.TheSendSync as rate
use Rattle.reindex.specs.contracts.bulk.Bulk as Bulk
use Rattle.reindex.specs.contracts.phase.Phase as Phase
use Rattle.reindex.specs.contracts.root.ReindexRoot as ReindexRoot
use Rattle.reindex.specs.contracts.shard_work.BulkShardWork as BulkShardWork
use Rattle.reindex.specs.contracts.slice.Slice as Slice
use Rattle.reindex.specs.contracts.slices.Slices as Slices
use Rattle.node_link.proofs.DocSends.{doc_send}
use Rattle.node_link.proofs.RequestSends.{bulk_shard_ask_send, bulk_shard_ask_sync, reindex_ask_field_send, search_ask_send, search_ask_sync}

ruleset texts = (shared.the_send, text.the_send, text.the_sync)

phase_send : IsSend (Phase.the_field).row
phase_send = search (items.the_send, doc_send, sendable) depth 20

pub slice_send : IsSend Slice.the_row
slice_send = search (texts, phase_send, search_ask_send, search_ask_sync, rate.the_field_send, task_id.the_send, counts.the_field_send, sendable, crosses) depth 20

slices_send : IsSend Slices.the_row
slices_send = search (texts, reindex_ask_field_send, counts.the_field_send, sendable, crosses) depth 20

pub reindex_root_field_send : IsSend (ReindexRoot.the_field).row
reindex_root_field_send = search (slice_send, slices_send, sendable) depth 20

pub bulk_send : IsSend Bulk.the_row
bulk_send = search (bulk_shard_ask_send, bulk_shard_ask_sync, shared.the_send, counts.the_field_send, sendable, crosses) depth 20

pub bulk_shard_work_send : IsSend BulkShardWork.the_row
bulk_shard_work_send = search (texts, doc_send, sendable, crosses) depth 20
