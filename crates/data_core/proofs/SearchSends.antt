-- The work of a search, of its queries and of its fetches may go to another thread.
use denote.Param.Send.{IsSend, sendable}
use Rattle.std.proofs.Crossing.{crosses}
use Rattle.shared_value.proofs.Shared.TheSendSync as shared
use Rattle.task_ids.proofs.items.Items.TheSendSync as items
use Rattle.task_ids.proofs.task_id.TaskId.TheSendSync as task_id
use Rattle.task_events.proofs.reading.ShardRead.TheSendSync as shard_read
use Rattle.task_events.proofs.request.FetchAsk.TheSendSync as fetch_ask
use Rattle.task_events.proofs.request.HitKey.TheSendSync as hit_key
use Rattle.search_phase.proofs.fetching.Fetching.TheSendSync as fetching
use Rattle.task_events.specs.contracts.step.Asked as Asked
use Rattle.search_phase.specs.contracts.fetch.ShardFetch as ShardFetch
use Rattle.search_phase.specs.contracts.query.ShardQuery as ShardQuery
use Rattle.search_phase.specs.contracts.reading.Reading as Reading
use Rattle.search_phase.specs.contracts.root.SearchRoot as SearchRoot
use Rattle.node_link.proofs.RequestSends.{search_ask_field_send, shard_ask_send, shard_ask_sync}
use Rattle.node_link.proofs.ReplySends.{hit_send, reply_field_send}

reading_send : IsSend (Reading.the_field).row
reading_send = search (search_ask_field_send, shard_read.the_send, hit_key.the_send, task_id.the_send, items.the_send, sendable, crosses) depth 20

asked_send : IsSend Asked.the_row
asked_send = search (reply_field_send, sendable, crosses) depth 20

pub search_root_send : IsSend SearchRoot.the_row
search_root_send = search (reading_send, asked_send, fetching.the_send, sendable, crosses) depth 20

pub shard_query_send : IsSend ShardQuery.the_row
shard_query_send = search (shard_ask_send, shard_ask_sync, shared.the_send, hit_key.the_send, sendable, crosses) depth 20

pub shard_fetch_send : IsSend ShardFetch.the_row
shard_fetch_send = search (hit_send, fetch_ask.the_send, fetch_ask.the_sync, shared.the_send, sendable, crosses) depth 20
