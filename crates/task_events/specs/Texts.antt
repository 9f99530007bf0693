-- How events are told: one line of words with a space between each two.
use Rattle.std.specs.Prelude.{ℕ, Bool, true, false, List, [], ◌∷◌, codes, decimal}
use Rattle.std.specs.List.{join_with_byte}
use Rattle.task_ids.specs.TaskId.{task_id_text, node_name}
use Rattle.task_events.specs.declared.reply.Reply.{Reply}
use Rattle.task_events.specs.declared.reply.Reply.TheVariants.{AllFailed, Cancelled, Rejected}
use Rattle.task_events.specs.declared.event.Outcome.{Outcome}
use Rattle.task_events.specs.declared.event.Outcome.TheVariants.{Created, Updated}
use Rattle.task_events.specs.declared.event.Event.{Event}
use Rattle.task_events.specs.declared.event.Event.TheVariants.{Begin, Root, RootRejected, Ask, Put, Reject, Pass, Refuse, Cancel, NotFound, Mark, BanPut, Listed, Acked, BanGone, Work, Write, Answered, End, AnswerPlaced, AnswerDone, Tick}

abbrev pub outcome_name : Outcome → List ℕ
outcome_name Created = codes "created"
outcome_name Updated = codes "updated"

abbrev pub waiting_words : Bool → List (List ℕ)
waiting_words true = codes "wait" ∷ []
waiting_words false = []

-- how a task ended: cancelled, or with all its shards failed, or else well
abbrev pub end_words : Reply → List (List ℕ)
end_words (Cancelled t c counts) = codes "cancelled" ∷ decimal c ∷ []
end_words (AllFailed shards) = codes "failed" ∷ []
end_words (Rejected n) = codes "failed" ∷ []
end_words _ = codes "done" ∷ []

-- the words of an event, where a refusal's cancellation has this reason
abbrev pub event_words : List ℕ → Event → List (List ℕ)
event_words reason (Begin k) = []
event_words reason (Root k t) = codes "root" ∷ decimal k ∷ task_id_text t ∷ []
event_words reason (RootRejected k n) = codes "root-rejected" ∷ decimal k ∷ node_name n ∷ []
event_words reason (Ask p k n r) = codes "ask" ∷ task_id_text p ∷ decimal k ∷ node_name n ∷ []
event_words reason (Put t p k) = codes "put" ∷ task_id_text t ∷ task_id_text p ∷ decimal k ∷ []
event_words reason (Reject n p k) = codes "reject" ∷ node_name n ∷ task_id_text p ∷ decimal k ∷ []
event_words reason (Pass t) = codes "pass" ∷ task_id_text t ∷ []
event_words reason (Refuse t c) = codes "refuse" ∷ task_id_text t ∷ decimal c ∷ reason ∷ []
event_words reason (Cancel c t wait) = codes "cancel" ∷ decimal c ∷ task_id_text t ∷ waiting_words wait
event_words reason (NotFound c) = codes "not-found" ∷ decimal c ∷ []
event_words reason (Mark t c) = codes "mark" ∷ task_id_text t ∷ decimal c ∷ []
event_words reason (BanPut n p c) = codes "ban" ∷ node_name n ∷ task_id_text p ∷ decimal c ∷ []
event_words reason (Listed n p) = codes "listed" ∷ node_name n ∷ task_id_text p ∷ []
event_words reason (Acked p n) = codes "acked" ∷ task_id_text p ∷ node_name n ∷ []
event_words reason (BanGone n p) = codes "unban" ∷ node_name n ∷ task_id_text p ∷ []
event_words reason (Work t) = codes "work" ∷ task_id_text t ∷ []
event_words reason (Write index shard outcome id) = codes "write" ∷ index ∷ decimal shard ∷ outcome_name outcome ∷ id ∷ []
event_words reason (Answered p k) = codes "answered" ∷ task_id_text p ∷ decimal k ∷ []
event_words reason (End t reply) = codes "end" ∷ task_id_text t ∷ end_words reply
event_words reason (AnswerPlaced c) = codes "placed" ∷ decimal c ∷ []
event_words reason (AnswerDone c) = codes "complete" ∷ decimal c ∷ []
event_words reason (Tick ms) = codes "tick" ∷ decimal ms ∷ []

-- the text of an event, and none of a command's beginning
abbrev pub event_text : List ℕ → Event → List ℕ
event_text reason event = join_with_byte 32 (event_words reason event)
