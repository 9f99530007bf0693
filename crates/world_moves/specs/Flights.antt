-- Which message each entry of the queue is.
use Rattle.std.specs.Prelude.{ℕ, Bool, true, false, List, [], ◌∷◌, length, ◌==◌, Option, Some, None, option_map, option_and_then, if◌then◌else◌}
use Rattle.task_ids.specs.declared.task_id.TaskId.{TaskId}
use Rattle.child_track.specs.Token.{ReceiptParts}
use Rattle.task_events.specs.declared.request.Request.{Request as AskedFor}
use Rattle.task_events.specs.declared.reply.Reply.{Reply}
use Rattle.task_events.specs.declared.reply.Reply.TheVariants.{Cancelled, Rejected}
use Rattle.task_events.specs.declared.event.Event.{Event}
use Rattle.task_events.specs.declared.event.Event.TheVariants.{Ask, Reject, Refuse, End}
use Rattle.task_events.specs.Tasks.{no_counts}
use Rattle.task_events.specs.Messages.{Message}
use Rattle.task_events.specs.Messages.Message.{Request, Answer, Ban, Ack, Unban}
use Rattle.node_parts.specs.declared.notice.Notice.{Notice}
use Rattle.node_parts.specs.declared.notice.Notice.TheVariants as notices
use Rattle.world_moves.specs.declared.flight.Sent.{Sent}
use Rattle.world_moves.specs.declared.flight.Sent.TheVariants as sent

-- the event at a place, counted from the oldest
abbrev pub event_at : ℕ → List Event → Option Event
event_at at [] = None
event_at at (e ∷ h) = if at == length h then Some e else event_at at h

-- the request that an ask sends
abbrev pub request_in : Event → Option AskedFor
request_in (Ask p k n r) = Some r
request_in _ = None

-- the reply that an ending child or a rejection sends
abbrev pub reply_in : Event → Option Reply
reply_in (Reject n p k) = Some (Rejected n)
reply_in (Refuse t c) = Some (Cancelled t c no_counts)
reply_in (End t r) = Some r
reply_in _ = None

-- the message that one about bans is
abbrev pub message_of_notice : Notice → Message
message_of_notice (notices.Ban parent cancel to) = Ban parent cancel to
message_of_notice (notices.Ack parent from) = Ack parent from
message_of_notice (notices.Unban parent to) = Unban parent to

-- the message of an entry: what a request or an answer says stands at its place in the past
abbrev pub message_of : List Event → Sent → Option Message
message_of h (sent.Request token to at headers) = option_map (λ r. Request token.parent token.ask to r) (option_and_then request_in (event_at at h))
message_of h (sent.Answer receipt at) = option_and_then (λ p. option_map (λ r. Answer p receipt.ask r) (option_and_then reply_in (event_at at h))) receipt.parent
message_of h (sent.Notice notice) = Some (message_of_notice notice)

-- the message about bans that an entry is
abbrev pub notice_at : Option Sent → Option Notice
notice_at (Some (sent.Notice notice)) = Some notice
notice_at _ = None

-- an entry of the queue that is a request, and one that is an answer
abbrev pub is_request_entry : Option Sent → Bool
is_request_entry (Some (sent.Request token to at headers)) = true
is_request_entry _ = false

-- the node to which a request goes
abbrev pub node_asked : Option Sent → Option ℕ
node_asked (Some (sent.Request token to at headers)) = Some to
node_asked _ = None

abbrev pub is_answer_entry : Option Sent → Bool
is_answer_entry (Some (sent.Answer receipt at)) = true
is_answer_entry _ = false

-- the answer that the receipt of a task that ended at this place is, where it has a parent
abbrev pub told_to : Option TaskId → ReceiptParts → ℕ → List Sent
told_to None receipt at = []
told_to (Some parent) receipt at = sent.Answer receipt at ∷ []

abbrev pub told_parent : ReceiptParts → ℕ → List Sent
told_parent receipt at = told_to receipt.parent receipt at
