-- A letter of a run may go to another thread.
use denote.RattleType.{RattleType}
use denote.Param.Send.{IsSend, sendable}
use Rattle.std.proofs.Crossing.{crosses}
use Rattle.shared_value.proofs.Shared.TheSendSync as shared
use Rattle.task_ids.proofs.boxed.Boxed.TheSendSync as boxed
use Rattle.task_ids.proofs.items.Items.TheSendSync as items
use Rattle.task_ids.proofs.task_id.TaskId.TheSendSync as task_id
use Rattle.task_ids.proofs.task_info.Headers.TheSendSync as headers
use Rattle.task_ids.proofs.task_info.TaskInfo.TheSendSync as task_info
use Rattle.task_events.proofs.counts.ShardCounts.TheSendSync as counts
use Rattle.task_events.proofs.request.HitKey.TheSendSync as hit_key
use Rattle.task_events.proofs.stop.Stop.TheSendSync as stop
use Rattle.tasks_api.proofs.filter.Filter.TheSendSync as filter
use Rattle.child_track.proofs.receipt.Receipt.TheSendSync as receipt
use Rattle.node_link.proofs.body.Place.TheSendSync as place
use Rattle.node_link.proofs.body.SentToken.TheSendSync as token
use Rattle.node_link.specs.contracts.body.Answered as Answered
use Rattle.node_link.specs.contracts.body.Asked as Asked
use Rattle.node_link.specs.contracts.body.Body as Body
use Rattle.node_link.specs.contracts.body.RootAnswered as RootAnswered
use Rattle.node_link.specs.contracts.body.Start as Start
use Rattle.node_link.specs.contracts.letter.Letter as Letter
use Rattle.node_link.specs.contracts.page.Page as Page
use Rattle.node_link.specs.declared.name.RunName as run
use Rattle.task_ids.specs.declared.board_name.BoardName as board
use Rattle.node_link.proofs.RequestSends.{answered_field_send, request_field_send, search_ask_send, search_ask_sync}
use Rattle.node_link.proofs.ReplySends.{reply_field_send}

pub page_send : IsSend Page.the_row
page_send = search (shared.the_send, search_ask_send, search_ask_sync, counts.the_send, hit_key.the_send, sendable, crosses) depth 20

ruleset pages = (page_send, boxed.the_send, place.the_send, place.the_field_send)

start_send : IsSend (Start.the_field).row
start_send = search (pages, request_field_send, headers.the_field_send, sendable, crosses) depth 20

asked_send : IsSend (Asked.the_field).row
asked_send = search (place.the_field_send, token.the_send, request_field_send, headers.the_field_send, sendable, crosses) depth 20

answered_send : IsSend (Answered.the_field).row
answered_send = search (pages, receipt.the_send, answered_field_send, reply_field_send, sendable, crosses) depth 20

root_answered_send : IsSend (RootAnswered.the_field).row
root_answered_send = search (pages, answered_field_send, reply_field_send, sendable, crosses) depth 20

body_field_send : IsSend (Body.the_field).row
body_field_send = search (start_send, asked_send, answered_send, root_answered_send, filter.the_field_send, stop.the_field_send, task_id.the_send, task_id.the_field_send, task_info.the_send, items.the_send, receipt.the_send, sendable) depth 60 fits 100000

pub letter_send : (N : RattleType) (r : run.Ghosts N.Denot) (b : board.Ghosts N.Denot) → IsSend (Letter.the_row N r b)
letter_send N r b = search (body_field_send, sendable) depth 20
