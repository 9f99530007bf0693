-- What task lists show of the live tasks, as the world's tables say it.
use Rattle.std.specs.Prelude.{◌≡◌, ℕ, ◌*◌, ◌^◌, ◌<◌, ◌≤◌, List, length, Option, Some, None, All, slice_get, ⊤}
use Rattle.std.specs.List.{AllByRecursion}
use Rattle.task_ids.specs.declared.task_info.TaskInfo.{TaskInfo}
use Rattle.task_table.specs.Table.{Table}
use Rattle.script_lang.specs.declared.command.Script.{Script}
use Rattle.script_lang.specs.KeepAlives.{day_ms}
use Rattle.task_events.specs.declared.request.Request.{Request}
use Rattle.task_events.specs.declared.event.Event.{Event}
use Rattle.task_events.specs.Kinds.{action_of, description_of}
use Rattle.task_events.specs.Cancels.{last_command}
use Rattle.task_events.specs.Clock.{clock}
use Rattle.task_events.specs.Requests.{request_of}
use Rattle.task_events.specs.TaskRows.{started_at, headers_of}
use Rattle.command_roots.specs.Roots.{scripted}
use Rattle.world_moves.specs.declared.flight.Sent.{Sent}
use Rattle.world_moves.specs.declared.flight.Sent.TheVariants as sent

-- no tick takes longer, in milliseconds
unfoldable pub longest_tick : ℕ
longest_tick = 2 ^ 36

-- A row tells of its task what it does and works on, when it started, and what its request carried.
pub record IsDescribed (script : Script) (h : List Event) (row : TaskInfo) : Type 0 where
  pub request : Request
  pub asked : request_of (scripted script) row.id h ≡ Some request
  pub action : row.action ≡ action_of request
  pub description : row.description ≡ description_of request
  pub start : row.start_ms ≡ started_at row.id h
  pub headers : row.headers ≡ headers_of (scripted script) row.id h

abbrev pub DescribesAll : Script → List Event → Option Table → Type 0
DescribesAll script h None = ⊤
DescribesAll script h (Some table) = All (IsDescribed script h) table.live

-- a request in flight carries what that of the asking task did
abbrev pub Carries : Script → List Event → Sent → Type 0
Carries script h (sent.Request token to at headers) = headers ≡ headers_of (scripted script) token.parent h
Carries script h _ = ⊤

-- The rows tell it of all live tasks, the requests in flight of those that will be, and the world knows the moment.
pub record Describing (script : Script) (h : List Event) (tables : List Table) (flight : List Sent) (now : ℕ) : Type 0 where
  pub rows_are : (place : ℕ) → DescribesAll script h (slice_get tables place)
  pub carried : AllByRecursion (Carries script h) flight
  pub clock_is : now ≡ clock h
  -- each command moves the clock by a day at most, and there are at most 65,535 of them and the closing drain
  pub clock_low : last_command h ≤ length script.commands → now ≤ last_command h * day_ms
  pub few_begun : last_command h ≤ 65536
  -- and no tick is longer than this
  pub clock_high : now ≤ length h * longest_tick
  -- so it is far from the end of the numbers
  pub clock_fits : now < 2 ^ 60
