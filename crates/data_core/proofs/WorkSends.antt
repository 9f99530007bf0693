-- The work of a task may go to another thread.
use denote.Param.Send.{IsSend, sendable}
use Rattle.task_ids.proofs.items.Items.TheSendSync as items
use Rattle.task_events.proofs.reply.ShardTop.TheSendSync as shard_top
use Rattle.task_work.specs.contracts.work.Work as Work
use Rattle.node_link.proofs.ReplySends.{hit_send}
use Rattle.data_core.proofs.ReindexSends.{bulk_send, bulk_shard_work_send, reindex_root_field_send, slice_send}
use Rattle.data_core.proofs.SearchSends.{search_root_send, shard_fetch_send, shard_query_send}

pub work_field_send : IsSend (Work.the_field).row
work_field_send = search (search_root_send, shard_query_send, shard_top.the_send, shard_fetch_send, items.the_send, hit_send, reindex_root_field_send, slice_send, bulk_send, bulk_shard_work_send, sendable) depth 20
