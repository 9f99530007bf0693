-- The task that a request makes.
use Rattle.std.specs.Prelude.{ℕ, Option, Some, None}
use Rattle.task_ids.specs.declared.task_id.TaskId.{TaskId}
use Rattle.task_ids.specs.declared.task_info.Headers.{Headers}
use Rattle.task_ids.specs.declared.task_info.NewTask.{NewTask}
use Rattle.task_events.specs.declared.request.Request.{Request}
use Rattle.task_events.specs.declared.request.Request.TheVariants as asks
use Rattle.task_events.specs.declared.request.ScrollAsk.{ScrollAsk}
use Rattle.task_events.specs.Kinds.{action_of, description_of}

-- one of this parent that starts at this moment, whose request carries these headers
abbrev pub task_for : Request → Option TaskId → ℕ → Headers → NewTask
task_for request parent start_ms headers = record {
  action = action_of request;
  description = description_of request;
  start_ms = start_ms;
  parent = parent;
  headers = headers;
}

-- the page that it asks for
abbrev pub page_in : Request → Option ScrollAsk
page_in (asks.Scroll ask) = Some ask
page_in _ = None
