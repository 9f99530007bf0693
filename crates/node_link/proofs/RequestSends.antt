-- Requests may go to another thread.
use denote.Param.Send.{IsSend, IsSync, sendable}
use Rattle.std.proofs.Crossing.{crosses}
use Rattle.shared_value.proofs.Shared.TheSendSync as shared
use Rattle.task_ids.proofs.items.Items.TheSendSync as items
use Rattle.task_ids.proofs.task_id.TaskId.TheSendSync as task_id
use Rattle.task_ids.proofs.text.Text.TheSendSync as text
use Rattle.task_events.proofs.request.FetchAsk.TheSendSync as fetch_ask
use Rattle.task_events.proofs.request.HitKey.TheSendSync as hit_key
use Rattle.task_events.proofs.request.ScrollAsk.TheSendSync as scroll_ask
use Rattle.task_events.proofs.request.SlicePick.TheSendSync as slice_pick
use Rattle.task_events.specs.contracts.answered.AnsweredRequest as AnsweredRequest
use Rattle.task_events.specs.contracts.request.BulkAsk as BulkAsk
use Rattle.task_events.specs.contracts.request.BulkShardAsk as BulkShardAsk
use Rattle.task_events.specs.contracts.request.ReindexAsk as ReindexAsk
use Rattle.task_events.specs.contracts.request.Request as Request
use Rattle.task_events.specs.contracts.request.SearchAsk as SearchAsk
use Rattle.task_events.specs.contracts.request.ShardAsk as ShardAsk
use Rattle.task_events.specs.contracts.request.SliceAsk as SliceAsk
use Rattle.node_link.proofs.DocSends.{doc_send, doc_sync}
use Rattle.node_link.proofs.QuerySends.{body_send, body_sync, query_send, query_sync}

ruleset texts = (shared.the_send, shared.the_sync, text.the_send, text.the_sync)

pub search_ask_send : IsSend SearchAsk.the_row
search_ask_send = search (texts, body_send, body_sync, task_id.the_send, slice_pick.the_send, sendable, crosses) depth 20

pub search_ask_field_send : IsSend (SearchAsk.the_field).row
search_ask_field_send = search (texts, body_send, body_sync, task_id.the_send, slice_pick.the_send, sendable, crosses) depth 20

pub search_ask_sync : IsSync SearchAsk.the_row
search_ask_sync = search (texts, body_send, body_sync, task_id.the_sync, slice_pick.the_sync, sendable, crosses) depth 20

pub shard_ask_send : IsSend ShardAsk.the_row
shard_ask_send = search (texts, body_send, body_sync, hit_key.the_send, slice_pick.the_send, sendable, crosses) depth 20

pub shard_ask_sync : IsSync ShardAsk.the_row
shard_ask_sync = search (texts, body_send, body_sync, hit_key.the_sync, slice_pick.the_sync, sendable, crosses) depth 20

pub reindex_ask_send : IsSend ReindexAsk.the_row
reindex_ask_send = search (texts, query_send, sendable, crosses) depth 20

reindex_ask_sync : IsSync ReindexAsk.the_row
reindex_ask_sync = search (texts, query_sync, sendable, crosses) depth 20

pub reindex_ask_field_send : IsSend (ReindexAsk.the_field).row
reindex_ask_field_send = search (texts, query_send, sendable, crosses) depth 20

reindex_ask_field_sync : IsSync (ReindexAsk.the_field).row
reindex_ask_field_sync = search (texts, query_sync, sendable, crosses) depth 20

slice_ask_send : IsSend SliceAsk.the_row
slice_ask_send = search (reindex_ask_field_send, sendable) depth 20

slice_ask_sync : IsSync SliceAsk.the_row
slice_ask_sync = search (reindex_ask_field_sync, sendable) depth 20

bulk_ask_send : IsSend BulkAsk.the_row
bulk_ask_send = search (texts, items.the_send, doc_send, sendable) depth 20

bulk_ask_sync : IsSync BulkAsk.the_row
bulk_ask_sync = search (texts, items.the_sync, doc_sync, sendable) depth 20

pub bulk_shard_ask_send : IsSend BulkShardAsk.the_row
bulk_shard_ask_send = search (texts, items.the_send, doc_send, sendable) depth 20

pub bulk_shard_ask_sync : IsSync BulkShardAsk.the_row
bulk_shard_ask_sync = search (texts, items.the_sync, doc_sync, sendable) depth 20

ruleset asks = (
  search_ask_send,
  search_ask_sync,
  shard_ask_send,
  shard_ask_sync,
  reindex_ask_send,
  reindex_ask_sync,
  slice_ask_send,
  slice_ask_sync,
  fetch_ask.the_send,
  fetch_ask.the_sync,
  scroll_ask.the_send,
  scroll_ask.the_sync,
  shared.the_send,
)

ruleset requests = (asks, bulk_ask_send, bulk_ask_sync, bulk_shard_ask_send, bulk_shard_ask_sync)

pub request_field_send : IsSend (Request.the_field).row
request_field_send = search (requests, sendable) depth 20

pub answered_field_send : IsSend (AnsweredRequest.the_field).row
answered_field_send = search (asks, text.the_send, text.the_sync, sendable, crosses) depth 20
