-- What the past says of one task.
use Rattle.std.specs.Prelude.{ℕ, ◌-◌, Bool, true, false, List, [], ◌∷◌, ◌++◌, Option, Some, None, is_some, not, option_map, slice_set, if◌then◌else◌}
use Rattle.std.specs.List.{list_all}
use Rattle.std.specs.Option.{option_map_or}
use Rattle.task_ids.specs.declared.task_id.TaskId.{TaskId}
use Rattle.task_ids.specs.declared.task_info.Headers.{Headers}
use Rattle.child_track.specs.Token.{Token}
use Rattle.child_track.specs.Track.{Track}
use Rattle.task_events.specs.declared.context.Context.{Context}
use Rattle.task_events.specs.declared.request.Request.{Request}
use Rattle.task_events.specs.declared.step.Asked.{Asked}
use Rattle.task_events.specs.declared.event.Event.{Event}
use Rattle.task_events.specs.declared.event.Event.TheVariants.{Root, Ask, Put, Pass, Refuse, Mark, Work, Write, Answered, End}
use Rattle.task_events.specs.Same.{same_task}
use Rattle.task_events.specs.Tasks.{is_live, is_new, parent_of, ask_of}
use Rattle.task_events.specs.Bans.{mark_of}
use Rattle.task_events.specs.Contexts.{page_of}
use Rattle.task_events.specs.Requests.{Scripted, request_of}
use Rattle.task_events.specs.Steps.{asked_by, came_by, turns_of, before_first_turn}
use Rattle.task_events.specs.TaskRows.{headers_of}
use Rattle.task_events.specs.Written.{is_created, writes_by}

-- of each ask of a task in order, the node that is still to answer it
abbrev pub awaited_by : TaskId → List Event → List (Option ℕ)
awaited_by t [] = []
awaited_by t (Ask p k n r ∷ h) = if same_task t p then awaited_by t h ++ Some n ∷ [] else awaited_by t h
awaited_by t (Answered p k ∷ h) = if same_task t p then slice_set (awaited_by t h) (k - 1) None else awaited_by t h
awaited_by t (_ ∷ h) = awaited_by t h

-- all asks are answered
abbrev pub none_awaited : List (Option ℕ) → Bool
none_awaited awaited = list_all (λ o. not (is_some o)) awaited

-- the requests that a task has made, in order
abbrev pub requested_by : TaskId → List Event → List Request
requested_by t [] = []
requested_by t (Ask p k n r ∷ h) = if same_task t p then requested_by t h ++ r ∷ [] else requested_by t h
requested_by t (_ ∷ h) = requested_by t h

pub record Facts : Type 0 where
  pub live : Bool
  -- it was put and has not passed
  pub new : Bool
  pub parent : Option TaskId
  pub ask : ℕ
  pub mark : Option ℕ
  pub awaited : List (Option ℕ)
  pub requests : List Request
  pub request : Option Request
  -- the context of which it shows a page, as that stood when it started
  pub page : Option Context
  pub asked : List Asked
  -- the moments at which they were answered
  pub came : List ℕ
  pub turns : ℕ
  -- what had happened before the first of them
  pub began : Option (List Event)
  -- how many documents it has created, and how many it has replaced
  pub created : ℕ
  pub updated : ℕ
  pub headers : Headers

-- what the past says of a task, given what the commands say
abbrev pub facts_of : Scripted → TaskId → List Event → Facts
facts_of said t h = record {
  live = is_live t h;
  new = is_new t h;
  parent = parent_of t h;
  ask = ask_of t h;
  mark = mark_of t h;
  awaited = awaited_by t h;
  requests = requested_by t h;
  request = request_of said t h;
  page = page_of said t h;
  asked = asked_by t h;
  came = came_by t h;
  turns = turns_of t h;
  began = before_first_turn t h;
  created = writes_by is_created t h;
  updated = writes_by (λ outcome. not (is_created outcome)) t h;
  headers = headers_of said t h;
}

-- a document is written
abbrev pub is_write : Event → Bool
is_write (Write index shard outcome id) = true
is_write _ = false

-- The task that an event is about, where the event names it. A write does not: it belongs to the turn of work before it.
abbrev pub about : Event → Option TaskId
about (Root c t) = Some t
about (Ask p k n r) = Some p
about (Put t p k) = Some t
about (Pass t) = Some t
about (Refuse t c) = Some t
about (Mark t c) = Some t
about (Work t) = Some t
about (Answered p k) = Some p
about (End t r) = Some t
about _ = None

abbrev pub is_about : TaskId → Event → Bool
is_about t e = option_map_or (same_task t) (about e) false

-- the token of a task, from the ask that it was put for
abbrev pub token_from : Facts → Option Token
token_from facts = option_map (λ p. record { parent = p; ask = facts.ask }) facts.parent

-- the track of a task
abbrev pub track_from : TaskId → Facts → Track
track_from t facts = record { task = t; asks = facts.awaited; closed = facts.mark }
