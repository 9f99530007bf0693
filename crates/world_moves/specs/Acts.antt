-- What the acts of a node's core make happen.
use Rattle.std.specs.Prelude.{ℕ, ◌++◌, ◌==◌, List, [], ◌∷◌, Option, Some, None, filter_map, option_map, if◌then◌else◌}
use Rattle.cancel_core.specs.declared.act.Act.{Act}
use Rattle.cancel_core.specs.declared.act.Act.TheVariants as acts
use Rattle.task_events.specs.declared.event.Event.{Event}
use Rattle.task_events.specs.declared.event.Event.TheVariants.{AnswerPlaced, AnswerDone}
use Rattle.node_parts.specs.Notices.{notice_of}
use Rattle.world_moves.specs.declared.flight.Sent.{Sent}
use Rattle.world_moves.specs.declared.flight.Sent.TheVariants.{Notice}
use Rattle.world_moves.specs.Left.{one_less}

-- the message that an act of this node's core sends
abbrev pub message_in : ℕ → Act → Option Sent
message_in node act = option_map Notice (notice_of node act)

abbrev pub messages_in : ℕ → List Act → List Sent
messages_in node acts = filter_map (message_in node) acts

-- that of an act, where there is one
abbrev pub messages_of : ℕ → Option Act → List Sent
messages_of node None = []
messages_of node (Some act) = messages_in node (act ∷ [])

-- the answer that a core gives for its task: it comes where the cancel waits at no other
abbrev pub answer_in : Act → Option Event
answer_in (acts.AnswerPlaced cancel task) = Some (AnswerPlaced cancel)
answer_in (acts.AnswerDone cancel task receipt) = Some (AnswerDone cancel)
answer_in _ = None

abbrev pub offered_in : List Act → List Event
offered_in acts = filter_map answer_in acts

-- the cancel of an answer
abbrev pub cancel_of : Event → ℕ
cancel_of (AnswerPlaced c) = c
cancel_of (AnswerDone c) = c
cancel_of _ = 0

-- at how many tasks each cancel waits after answers were given for one task: at one less
abbrev pub left_after : List Event → (ℕ → ℕ) → ℕ → ℕ
left_after [] left = left
left_after (e ∷ es) left = left_after es (one_less (cancel_of e) left)

-- those of the answers that come, each with the last task of its cancel; the newest first
abbrev pub answers_of : List Event → (ℕ → ℕ) → List Event
answers_of [] left = []
answers_of (e ∷ es) left = answers_of es (one_less (cancel_of e) left) ++ (if left (cancel_of e) == 1 then e ∷ [] else [])

abbrev pub answers_in : List Act → (ℕ → ℕ) → List Event
answers_in acts left = answers_of (offered_in acts) left
