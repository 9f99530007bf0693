-- What a reindex has copied: of each of its slices each row, as the slice's first search found it.
use Rattle.std.specs.Prelude.{ℕ, ◌+◌, ◌≡◌, ◌==◌, List, length, Option, Some, if◌then◌else◌, slice_get}
use Rattle.std.specs.List.{flat_map}
use Rattle.task_ids.specs.declared.cluster.Cluster.{Cluster}
use Rattle.task_ids.specs.declared.corpus.Corpus.{Corpus}
use Rattle.task_ids.specs.declared.doc.Doc.{Doc}
use Rattle.task_ids.specs.declared.task_id.TaskId.{TaskId}
use Rattle.task_events.specs.declared.context.Context.{Context}
use Rattle.task_events.specs.declared.event.Event.{Event}
use Rattle.task_events.specs.declared.reply.Counts.{Counts}
use Rattle.task_events.specs.declared.reply.Reply.TheVariants.{Wrote}
use Rattle.task_events.specs.declared.request.ReindexAsk.{ReindexAsk}
use Rattle.task_events.specs.declared.request.Request.TheVariants.{Reindex}
use Rattle.task_events.specs.Documents.{writes_of}
use Rattle.task_events.specs.Requests.{request_of}
use Rattle.task_events.specs.Tasks.{child_of, reply_of}
use Rattle.script_lang.specs.declared.command.Script.{Script}
use Rattle.command_roots.specs.Roots.{scripted}
use Rattle.world_moves.specs.Good.{so_far}
use Rattle.world_steps.specs.PagesFollow.{listed}
use Rattle.write_laws.specs.Copied.{HasWritten}
use Rattle.write_laws.specs.CopiedRows.{CopiesRows, docs_in}
use Rattle.write_laws.specs.Destinations.{WritesInto}

-- the documents of all rows of the source that match in a context, at the versions that it keeps
abbrev pub docs_matched : Cluster → Corpus → Script → ReindexAsk → List Event → Context → List Doc
docs_matched cluster corpus script ask h context = docs_in (listed (writes_of (so_far corpus script h) cluster.shards ask.source) context)

-- the task that does the work of a slice: the reindex itself where it has one slice, and else the task that it asked for that slice
abbrev pub task_of_slice : TaskId → ReindexAsk → ℕ → List Event → Option TaskId
task_of_slice t ask slice h = if ask.slices == 1 then Some t else child_of t (slice + 1) h

-- a slice has found its rows in this context, and has copied them
pub record CopiesSlice (cluster : Cluster) (corpus : Corpus) (script : Script) (t : TaskId) (ask : ReindexAsk) (h : List Event) (slice : ℕ) (context : Context) : Type 0 where
  pub task : TaskId
  pub does : task_of_slice t ask slice h ≡ Some task
  pub rows : CopiesRows cluster corpus script task ask slice h
  pub found : rows.context ≡ context

-- A reindex and its descendants have written, of each slice, the document of each row that matches in it, once, and nothing else; all of it into
-- the index that was asked for.
pub record CopiesAll (cluster : Cluster) (corpus : Corpus) (script : Script) (t : TaskId) (ask : ReindexAsk) (h : List Event) : Type 0 where
  -- the contexts of its slices, in order: each keeps the versions that the slice's first search read
  pub contexts : List Context
  pub as_many : length contexts ≡ ask.slices
  pub each : (slice : ℕ) (context : Context) → slice_get contexts slice ≡ Some context → CopiesSlice cluster corpus script t ask h slice context
  pub written : HasWritten (scripted script) t h (flat_map (docs_matched cluster corpus script ask h) contexts)
  pub into : WritesInto ask.dest t h

-- Each reindex that tells of no failure has copied the rows of all its slices.
abbrev pub CopiesItsRows : Cluster → Corpus → Script → List Event → Type 0
CopiesItsRows cluster corpus script h =
    (t : TaskId) (ask : ReindexAsk) (counts : Counts) → request_of (scripted script) t h ≡ Some (Reindex ask) → reply_of t h ≡ Some (Wrote counts) → counts.failures ≡ 0 → CopiesAll cluster corpus script t ask h
