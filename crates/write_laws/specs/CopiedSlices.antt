-- What a reindex of several slices has written, by its slices.
use Rattle.std.specs.Prelude.{ℕ, ◌+◌, ◌≡◌, List, length, Some, slice_get}
use Rattle.std.specs.List.{flat_map}
use Rattle.task_ids.specs.declared.doc.Doc.{Doc}
use Rattle.task_ids.specs.declared.task_id.TaskId.{TaskId}
use Rattle.task_events.specs.declared.event.Event.{Event}
use Rattle.task_events.specs.declared.reply.Counts.{Counts}
use Rattle.task_events.specs.declared.reply.Reply.TheVariants.{Wrote}
use Rattle.task_events.specs.declared.request.ReindexAsk.{ReindexAsk}
use Rattle.task_events.specs.declared.request.Request.TheVariants.{Slice}
use Rattle.task_events.specs.declared.request.SliceAsk.{SliceAsk}
use Rattle.task_events.specs.Asks.{last_ask}
use Rattle.task_events.specs.Requests.{Scripted, request_of}
use Rattle.task_events.specs.Slicing.{slice_at}
use Rattle.task_events.specs.Tasks.{child_of, reply_of}
use Rattle.write_laws.specs.Copied.{HasWritten}

-- the ask of this number, counted from 0, was for this slice: its task has ended, and tells of no failure
pub record HasDone (said : Scripted) (t : TaskId) (h : List Event) (i : ℕ) (slice : SliceAsk) : Type 0 where
  pub task : TaskId
  pub put : child_of t (i + 1) h ≡ Some task
  pub asked : request_of said task h ≡ Some (Slice slice)
  pub counts : Counts
  pub replied : reply_of task h ≡ Some (Wrote counts)
  pub unfailing : counts.failures ≡ 0

-- A reindex has had each of its slices done, in order, and has written what these have.
pub record CopiesSlices (said : Scripted) (t : TaskId) (ask : ReindexAsk) (h : List Event) : Type 0 where
  -- it has asked for as many things as it has slices
  pub as_many : last_ask t h ≡ ask.slices
  -- for each slice by the ask of its number
  pub each : (i : ℕ) (slice : SliceAsk) → slice_at ask i ≡ Some slice → HasDone said t h i slice
  -- whatever the tasks of its slices have written, that together is what it has written
  pub written : (docs : List (List Doc)) → length docs ≡ ask.slices
      → ((i : ℕ) (c : TaskId) (own : List Doc) → child_of t (i + 1) h ≡ Some c → slice_get docs i ≡ Some own → HasWritten said c h own)
      → HasWritten said t h (flat_map (λ own. own) docs)
