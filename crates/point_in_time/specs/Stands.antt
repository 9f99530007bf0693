-- When a point in time stands, by the past.
use Rattle.std.specs.Prelude.{◌≡◌, ℕ, ◌+◌, List, [], ◌∷◌, false, Option, Some, None, option_map, if◌then◌else◌}
use Rattle.std.specs.Option.{option_map_or, option_or}
use Rattle.task_ids.specs.declared.task_id.TaskId.{TaskId}
use Rattle.task_events.specs.declared.context.Context.{Context}
use Rattle.task_events.specs.declared.event.Event.{Event}
use Rattle.task_events.specs.declared.event.Event.TheVariants.{Begin, Root, End, Tick}
use Rattle.task_events.specs.declared.reply.Reply.{Reply}
use Rattle.task_events.specs.declared.reply.Reply.TheVariants.{Search}
use Rattle.task_events.specs.declared.request.Request.{Request}
use Rattle.task_events.specs.declared.request.Request.TheVariants as asks
use Rattle.task_events.specs.Clock.{clock}
use Rattle.task_events.specs.Contexts.{unexpired}
use Rattle.task_events.specs.Requests.{Scripted, request_of}
use Rattle.task_events.specs.Same.{same_task}
use Rattle.point_in_time.specs.declared.pit.Pit.{Pit}
use Rattle.point_in_time.specs.Pits.{as_context, opened, read_at}

-- a point in time that a search reads, and the keep-alive that it gives it, where it gives it another
pub record Look : Type 0 where
  pub pit : TaskId
  pub keep : Option ℕ

-- What the commands of a script say of points in time, each by its number.
pub record Pinning : Type 0 where
  -- after how many milliseconds without use that expires which its task opens, where it opens one
  pub opens : ℕ → Option ℕ
  -- the one that it closes, by what happened before
  pub closes : ℕ → List Event → Option TaskId
  -- the one that its search reads, by what happened before
  pub reads : ℕ → List Event → Option Look

-- the keep-alive of what a task opens, by the command that started it
abbrev pub keep_of : Pinning → TaskId → List Event → Option ℕ
keep_of pinning t [] = None
keep_of pinning t (Root k u ∷ h) = if same_task t u then pinning.opens k else keep_of pinning t h
keep_of pinning t (_ ∷ h) = keep_of pinning t h

-- what a task opens that ends with this reply at this moment: nothing where it was not started for it, or did not see all shards
abbrev pub opened_by : TaskId → Option Request → Option ℕ → Reply → ℕ → Option Pit
opened_by t (Some (asks.Search ask)) (Some keep) (Search reply) now = opened t ask reply keep now
opened_by t _ _ _ now = None

-- what the reading of a search makes of the point in time of an id
abbrev pub after_look : ℕ → Option Look → TaskId → Option Context → Option Context
after_look now None id c = c
after_look now (Some look) id c = if same_task look.pit id then option_map (read_at now look.keep) c else c

-- what the end of a task makes of it
abbrev pub after_opening : TaskId → Option Pit → TaskId → Option Context → Option Context
after_opening t pit id c = if same_task t id then option_or (option_map as_context pit) c else c

-- The point in time of an id, where it stands: from the good end of the task that opens it, until a command begins that closes it, or to the
-- first tick after which its last use plus its keep-alive is not above the clock.
abbrev pub point_at : Scripted → Pinning → TaskId → List Event → Option Context
point_at script pinning id [] = None
point_at script pinning id (Begin k ∷ h) = if option_map_or (same_task id) (pinning.closes k h) false then None else point_at script pinning id h
point_at script pinning id (Root k t ∷ h) = after_look (clock h) (pinning.reads k h) id (point_at script pinning id h)
point_at script pinning id (End t reply ∷ h) = after_opening t (opened_by t (request_of script t h) (keep_of pinning t h) reply (clock h)) id (point_at script pinning id h)
point_at script pinning id (Tick ms ∷ h) = unexpired (clock h + ms) (point_at script pinning id h)
point_at script pinning id (_ ∷ h) = point_at script pinning id h

abbrev pub PointStands : Scripted → Pinning → TaskId → Context → List Event → Type 0
PointStands script pinning id c h = point_at script pinning id h ≡ Some c
