-- What a query of a search is made of may go to another thread.
use denote.Param.Send.{IsSend, IsSync, sendable}
use Rattle.std.proofs.Crossing.{crosses}
use Rattle.query_match.proofs.query.Node.TheLaws.TheKnot as node
use Rattle.query_match.proofs.query.Test.TheSendSync as test
use Rattle.query_match.proofs.scalar.Scalar.TheSendSync as scalar
use Rattle.query_match.proofs.query.Range.TheSendSync as range
use Rattle.query_match.proofs.items.Items.TheSendSync as items
use Rattle.query_match.proofs.text.Text.TheSendSync as text
use Rattle.query_match.proofs.sort.SortBy.TheSendSync as sort_by
use Rattle.query_match.specs.contracts.query.Node as Node
use Rattle.query_match.specs.contracts.query.Query as Query
use Rattle.query_match.specs.contracts.body.SearchBody as SearchBody

ruleset parts_send = (text.the_send, items.the_send, test.the_send, test.the_field_send, scalar.the_send, scalar.the_field_send, range.the_send, range.the_field_send)

ruleset parts_sync = (text.the_sync, items.the_sync, test.the_sync, test.the_field_sync, scalar.the_sync, scalar.the_field_sync, range.the_sync, range.the_field_sync)

node_send : IsSend Node.the_row
node_send = search (sendable, crosses, node.crosses, parts_send) depth 20

node_sync : IsSync Node.the_row
node_sync = search (sendable, crosses, node.crosses, parts_sync) depth 20

pub query_send : IsSend Query.the_row
query_send = let s = node_send in let y = node_sync in search (sendable, crosses) depth 20

pub query_sync : IsSync Query.the_row
query_sync = let s = node_send in let y = node_sync in search (sendable, crosses) depth 20

pub body_send : IsSend SearchBody.the_row
body_send = search (query_send, items.the_send, sort_by.the_send, sendable, crosses) depth 20

pub body_sync : IsSync SearchBody.the_row
body_sync = search (query_sync, items.the_sync, sort_by.the_sync, sendable, crosses) depth 20
