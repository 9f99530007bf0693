-- The live tasks of a worker may go to another thread.
use denote.Param.Send.{IsSend, sendable}
use Rattle.std.proofs.Crossing.{crosses}
use Rattle.std.proofs.MapsCrossing as maps
use Rattle.child_track.proofs.track.ChildTrack.TheSendSync as child_track
use Rattle.task_ids.proofs.boxed.Boxed.TheSendSync as boxed
use Rattle.task_ids.proofs.task_info.Headers.TheSendSync as headers
use Rattle.task_ids.proofs.task_info.NewTask.TheSendSync as new_task
use Rattle.task_events.proofs.request.ScrollAsk.TheSendSync as scroll_ask
use Rattle.task_table.proofs.ticket.Ticket.TheSendSync as ticket
use Rattle.node_link.proofs.body.Place.TheSendSync as place
use Rattle.live_tasks.proofs.places.AskedPlaces.TheSendSync as asked_places
use Rattle.live_tasks.specs.contracts.entry.Entry as Entry
use Rattle.live_tasks.specs.contracts.live.LiveTasks as LiveTasks
use Rattle.node_parts.specs.contracts.running.Running as Running
use Rattle.node_link.proofs.LetterSends.{page_send}
use Rattle.node_link.proofs.RequestSends.{answered_field_send}
use Rattle.data_core.proofs.WorkSends.{work_field_send}

running_send : IsSend (Running.the_field).row
running_send = search (work_field_send, ticket.the_send, child_track.the_send, scroll_ask.the_send, headers.the_field_send, sendable) depth 20

entry_send : IsSend Entry.the_row
entry_send = search (running_send, place.the_field_send, new_task.the_field_send, answered_field_send, page_send, boxed.the_send, asked_places.the_send, sendable) depth 20

pub live_tasks_field_send : IsSend (LiveTasks.the_field).row
live_tasks_field_send = search (entry_send, boxed.the_send, place.the_send, maps.crosses, sendable, crosses) depth 20
