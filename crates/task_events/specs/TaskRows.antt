-- The live tasks as a task list shows them: what each does and works on, when it started, and what its request carried.
use Rattle.std.specs.Prelude.{ℕ, ◌==◌, List, [], ◌∷◌, filter, filter_map, reverse, Option, option_map, if◌then◌else◌}
use Rattle.std.specs.List.{flat_map}
use Rattle.task_ids.specs.declared.task_id.TaskId.{TaskId}
use Rattle.task_ids.specs.declared.task_info.Headers.{Headers}
use Rattle.task_ids.specs.declared.task_info.TaskInfo.{TaskInfo}
use Rattle.task_ids.specs.Headers.{no_headers}
use Rattle.task_events.specs.declared.event.Event.{Event}
use Rattle.task_events.specs.declared.event.Event.TheVariants.{Root, Put}
use Rattle.task_events.specs.Same.{same_task}
use Rattle.task_events.specs.Tasks.{live_tasks, parent_of}
use Rattle.task_events.specs.Asks.{up_to}
use Rattle.task_events.specs.Bans.{mark_of}
use Rattle.task_events.specs.Clock.{clock}
use Rattle.task_events.specs.Kinds.{action_of, description_of}
use Rattle.task_events.specs.Requests.{Scripted, request_of}

-- the moment at which a task started
abbrev pub started_at : TaskId → List Event → ℕ
started_at t [] = 0
started_at t (Root k u ∷ h) = if same_task t u then clock h else started_at t h
started_at t (Put u p k ∷ h) = if same_task t u then clock h else started_at t h
started_at t (_ ∷ h) = started_at t h

-- What the request of a task carried: a root's what its command gives, a child's what its parent's did.
abbrev pub headers_of : Scripted → TaskId → List Event → Headers
headers_of script t [] = no_headers
headers_of script t (Root k u ∷ h) = if same_task t u then script.carried k else headers_of script t h
headers_of script t (Put u p k ∷ h) = if same_task t u then headers_of script p h else headers_of script t h
headers_of script t (_ ∷ h) = headers_of script t h

-- The row of a task, given what the commands say.
abbrev pub row_of : Scripted → TaskId → List Event → Option TaskInfo
row_of script t h = option_map (λ request. record {
  id = t;
  action = action_of request;
  description = description_of request;
  start_ms = started_at t h;
  parent = parent_of t h;
  headers = headers_of script t h;
  cancelled = mark_of t h;
}) (request_of script t h)

-- the live tasks of a node by ascending number, which is the oldest first
abbrev pub living_on : ℕ → List Event → List TaskId
living_on node h = reverse (filter (λ t. node == t.node) (live_tasks h))

-- The rows of the live tasks of so many nodes, by ascending id.
abbrev pub live_rows : ℕ → Scripted → List Event → List TaskInfo
live_rows nodes script h = flat_map (λ node. filter_map (λ t. row_of script t h) (living_on node h)) (up_to nodes)
