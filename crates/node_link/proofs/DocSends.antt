-- What a document is made of may go to another thread.
use denote.Param.Send.{IsSend, IsSync, sendable}
use Rattle.std.proofs.Crossing.{crosses}
use Rattle.std.proofs.MapsCrossing as maps
use Rattle.shared_value.proofs.Shared.TheSendSync as shared
use Rattle.serde_json.proofs.number.Number.TheSendSync as number
use Rattle.serde_json.proofs.value.Value.TheLaws.TheKnot as value
use Rattle.task_ids.proofs.items.Items.TheSendSync as items
use Rattle.task_ids.proofs.keys.Key.TheSendSync as key
use Rattle.task_ids.proofs.text.Text.TheSendSync as text
use Rattle.serde_json.specs.contracts.value.Value as Value
use Rattle.task_ids.specs.contracts.source.Member as Member
use Rattle.task_ids.specs.contracts.source.DocSource as DocSource
use Rattle.task_ids.specs.contracts.doc.Doc as Doc

value_field_send : IsSend (Value.the_field).row
value_field_send = search (value.crosses, number.the_field_send, maps.crosses, sendable, crosses) depth 20

value_field_sync : IsSync (Value.the_field).row
value_field_sync = search (value.crosses, number.the_field_sync, maps.crosses, sendable, crosses) depth 20

member_send : IsSend Member.the_row
member_send = search (value_field_send, key.the_send, key.the_sync, shared.the_send, sendable, crosses) depth 20

member_sync : IsSync Member.the_row
member_sync = search (value_field_sync, key.the_send, key.the_sync, shared.the_sync, sendable, crosses) depth 20

source_send : IsSend DocSource.the_row
source_send = search (member_send, member_sync, items.the_send, items.the_sync, shared.the_send, sendable, crosses) depth 20

source_sync : IsSync DocSource.the_row
source_sync = search (member_send, member_sync, items.the_send, items.the_sync, shared.the_sync, sendable, crosses) depth 20

pub doc_send : IsSend Doc.the_row
doc_send = search (source_send, text.the_send, text.the_sync, shared.the_send, sendable, crosses) depth 20

pub doc_sync : IsSync Doc.the_row
doc_sync = search (source_sync, text.the_send, text.the_sync, shared.the_sync, sendable, crosses) depth 20

pub doc_field_send : IsSend (Doc.the_field).row
doc_field_send = search (source_send, text.the_send, text.the_sync, shared.the_send, sendable, crosses) depth 20

pub doc_field_sync : IsSync (Doc.the_field).row
doc_field_sync = search (source_sync, text.the_send, text.the_sync, shared.the_sync, sendable, crosses) depth 20
