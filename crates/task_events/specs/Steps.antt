-- What a live task does with its next step.
use Rattle.std.specs.Prelude.{ℕ, ◌+◌, ◌-◌, List, [], ◌∷◌, ◌++◌, length, map, slice_set, not, Option, Some, None, option_map, option_and_then, if◌then◌else◌, ◌==◌}
use Rattle.std.specs.Option.{option_map_or, option_or}
use Rattle.task_ids.specs.declared.task_id.TaskId.{TaskId}
use Rattle.task_ids.specs.declared.cluster.Cluster.{Cluster}
use Rattle.task_ids.specs.declared.corpus.Corpus.{Corpus}
use Rattle.task_events.specs.declared.request.Request.{Request}
use Rattle.task_events.specs.declared.reply.Counts.{Counts}
use Rattle.task_events.specs.declared.reply.Reply.{Reply}
use Rattle.task_events.specs.declared.reply.Reply.TheVariants.{Cancelled}
use Rattle.task_events.specs.declared.step.Asked.{Asked}
use Rattle.task_events.specs.declared.step.Do.{Do}
use Rattle.task_events.specs.declared.step.Do.TheVariants.{AskNext, Turn, Wait, Finish}
use Rattle.task_events.specs.declared.event.Event.{Event}
use Rattle.task_events.specs.declared.event.Event.TheVariants.{Ask, Pass, Refuse, Work, Answered, End}
use Rattle.task_events.specs.Same.{same_task}
use Rattle.task_events.specs.Tasks.{no_counts, is_new}
use Rattle.task_events.specs.Asks.{Pending, last_ask, unanswered, answer_of}
use Rattle.task_events.specs.Bans.{mark_of, ban_over}
use Rattle.task_events.specs.Clock.{clock}
use Rattle.task_events.specs.Contexts.{page_of}
use Rattle.task_events.specs.Documents.{writes_at}
use Rattle.task_events.specs.Kind.{Progress}
use Rattle.task_events.specs.Kinds.{kind_of, node_for}
use Rattle.task_events.specs.Requests.{Scripted, request_of}
use Rattle.task_events.specs.Written.{corpus_at, is_created, turn_notes, with_notes, writes_by}

-- the ask of this number with its answer
abbrev pub with_answer : ℕ → Option Reply → Asked → Asked
with_answer k reply asked = if k == asked.ask then record { ask = k; answer = reply } else asked

-- the asks of a task in order, each with its answer once it has come
abbrev pub asked_by : TaskId → List Event → List Asked
asked_by t [] = []
asked_by t (Ask p k n r ∷ h) = if same_task t p then asked_by t h ++ record { ask = k; answer = None } ∷ [] else asked_by t h
asked_by t (Answered p k ∷ h) = if same_task t p then map (with_answer k (answer_of p k h)) (asked_by t h) else asked_by t h
asked_by t (_ ∷ h) = asked_by t h

-- how many turns of work a task has taken
abbrev pub turns_of : TaskId → List Event → ℕ
turns_of t [] = 0
turns_of t (Work u ∷ h) = if same_task t u then 1 + turns_of t h else turns_of t h
turns_of t (_ ∷ h) = turns_of t h

-- the moments at which the asks of a task were answered, 0 for those that are not
abbrev pub came_by : TaskId → List Event → List ℕ
came_by t [] = []
came_by t (Ask p k n r ∷ h) = if same_task t p then came_by t h ++ 0 ∷ [] else came_by t h
came_by t (Answered p k ∷ h) = if same_task t p then slice_set (came_by t h) (k - 1) (clock h) else came_by t h
came_by t (_ ∷ h) = came_by t h

-- what had happened before the first turn of work of a task
abbrev pub before_first_turn : TaskId → List Event → Option (List Event)
before_first_turn t [] = None
before_first_turn t (Work u ∷ h) = if same_task t u then option_or (before_first_turn t h) (Some h) else before_first_turn t h
before_first_turn t (_ ∷ h) = before_first_turn t h

-- how many writes the shard of a request had before the first turn of its task
abbrev pub first_version : Cluster → Corpus → Scripted → Request → Option (List Event) → Option ℕ
first_version cluster corpus script request began = option_map (λ past. length (writes_at cluster (corpus_at corpus script past) (kind_of request).place)) began

-- how far a task has come that was asked to do this
abbrev pub progress_of : Cluster → Corpus → Scripted → TaskId → Request → List Event → Progress
progress_of cluster corpus script t request h = record {
  page = page_of script t h;
  asked = asked_by t h;
  came = came_by t h;
  turns = turns_of t h;
  version = first_version cluster corpus script request (before_first_turn t h);
  created = writes_by is_created t h;
  updated = writes_by (λ outcome. not (is_created outcome)) t h;
}

-- What a task's plan says, by its request, how far it has come, and the moment.
abbrev pub planned_step : Cluster → Corpus → Scripted → TaskId → Request → List Event → Do
planned_step cluster corpus script t request h = (kind_of request).step cluster (corpus_at corpus script h) t (progress_of cluster corpus script t request h) (clock h)

-- what a task has counted so far
abbrev pub counted : Cluster → Corpus → Scripted → TaskId → List Event → Counts
counted cluster corpus script t h = option_map_or (λ request. (kind_of request).counts (progress_of cluster corpus script t request h)) (request_of script t h) no_counts

-- the event that a task's plan leads to, and none where it waits
abbrev pub event_of : Cluster → TaskId → List Event → Do → Option Event
event_of cluster t h (AskNext request) = Some (Ask t (last_ask t h + 1) (node_for cluster t request) request)
event_of cluster t h Turn = Some (Work t)
event_of cluster t h (Wait due) = None
event_of cluster t h (Finish reply) = Some (End t reply)

-- a child's first step, by the ban of its parent on its node
abbrev pub first_step : TaskId → Option ℕ → Event
first_step t None = Pass t
first_step t (Some c) = Refuse t c

-- the end of a marked task, which waits while an ask is unanswered, and tells what it has counted
abbrev pub cancelled_step : TaskId → ℕ → Counts → List Pending → Option Event
cancelled_step t c counts [] = Some (End t (Cancelled t c counts))
cancelled_step t c counts (ask ∷ asks) = None

-- what a live task does next that has passed: a marked one ends once its asks are answered, and for another its plan says
abbrev pub step_of_passed : Cluster → TaskId → List Event → Option ℕ → Counts → Option Do → Option Event
step_of_passed cluster t h (Some mark) counts plan = cancelled_step t mark counts (unanswered t h)
step_of_passed cluster t h None counts plan = option_and_then (event_of cluster t h) plan

-- The next step of a live task, and none where it waits, given what the commands say: a child that has not passed passes or is refused.
abbrev pub next_step : Cluster → Corpus → Scripted → TaskId → List Event → Option Event
next_step cluster corpus script t h =
    if is_new t h then Some (first_step t (ban_over t h))
    else step_of_passed cluster t h (mark_of t h) (counted cluster corpus script t h) (option_map (λ request. planned_step cluster corpus script t request h) (request_of script t h))

-- The past after a turn of work, which writes the next documents of its task's request.
abbrev pub after_turn : Cluster → Corpus → Scripted → TaskId → List Event → List Event
after_turn cluster corpus script t h = with_notes (option_map_or (λ request. turn_notes cluster (corpus_at corpus script h) request (turns_of t h)) (request_of script t h) []) (Work t ∷ h)
