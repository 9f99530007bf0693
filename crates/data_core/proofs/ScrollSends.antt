-- The contexts of slices may go to another thread.
use denote.Param.Send.{IsSend, sendable}
use Rattle.std.proofs.Crossing.{crosses}
use Rattle.std.proofs.MapsCrossing as maps
use Rattle.shared_value.proofs.Shared.TheSendSync as shared
use Rattle.task_ids.proofs.task_id.TaskId.TheSendSync as task_id
use Rattle.task_events.proofs.counts.ShardCounts.TheSendSync as shard_counts
use Rattle.task_events.proofs.request.HitKey.TheSendSync as hit_key
use Rattle.scroll_table.proofs.ends.Ends.TheSendSync as ends
use Rattle.scroll_table.proofs.owners.Owners.TheSendSync as owners
use Rattle.scroll_table.proofs.versions.Versions.TheSendSync as versions
use Rattle.scroll_table.specs.contracts.table.ScrollTable as ScrollTable
use Rattle.task_events.specs.contracts.context.Context as Context
use Rattle.node_link.proofs.RequestSends.{search_ask_send, search_ask_sync}

context_send : IsSend Context.the_row
context_send = search (search_ask_send, search_ask_sync, shared.the_send, task_id.the_send, shard_counts.the_send, hit_key.the_send, sendable, crosses) depth 20

pub scroll_table_send : IsSend ScrollTable.the_row
scroll_table_send = search (context_send, task_id.the_send, ends.the_field_send, owners.the_field_send, versions.the_field_send, maps.crosses, sendable, crosses) depth 20
