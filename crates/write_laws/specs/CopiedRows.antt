-- What a slice has copied: each row of its part of the source, as its first search found it.
use Rattle.std.specs.Prelude.{ℕ, ◌≡◌, List, Some, map}
use Rattle.std.specs.List.{range_with_len}
use Rattle.task_ids.specs.declared.cluster.Cluster.{Cluster}
use Rattle.task_ids.specs.declared.corpus.Corpus.{Corpus}
use Rattle.task_ids.specs.declared.doc.Doc.{Doc}
use Rattle.task_ids.specs.declared.task_id.TaskId.{TaskId}
use Rattle.task_events.specs.declared.context.Context.{Context}
use Rattle.task_events.specs.declared.event.Event.{Event}
use Rattle.task_events.specs.declared.reply.Hit.{Hit}
use Rattle.task_events.specs.declared.reply.ShardCount.{ShardCount}
use Rattle.task_events.specs.declared.request.ReindexAsk.{ReindexAsk}
use Rattle.task_events.specs.declared.request.Request.TheVariants.{Search}
use Rattle.task_events.specs.Documents.{writes_of}
use Rattle.task_events.specs.Requests.{request_of}
use Rattle.task_events.specs.SliceTask.{first_page}
use Rattle.task_events.specs.Tasks.{parent_of}
use Rattle.script_lang.specs.declared.command.Script.{Script}
use Rattle.command_roots.specs.Roots.{scripted}
use Rattle.world_moves.specs.Good.{so_far}
use Rattle.world_steps.specs.PagesFollow.{first_context, listed}
use Rattle.write_laws.specs.Copied.{HasWritten}

-- the documents of these hits
abbrev pub docs_in : List Hit → List Doc
docs_in hits = map (λ hit. hit.doc) hits

-- A task that does the work of a slice of a reindex, and its descendants, have written the document of each row that matches in the slice,
-- once, and nothing else: at the versions that the slice's first search read, whatever is written later.
pub record CopiesRows (cluster : Cluster) (corpus : Corpus) (script : Script) (t : TaskId) (ask : ReindexAsk) (slice : ℕ) (h : List Event) : Type 0 where
  -- the task has searched its slice of the source
  pub search : TaskId
  pub parent : parent_of search h ≡ Some t
  pub asked : request_of (scripted script) search h ≡ Some (first_page t ask slice cluster.shards)
  -- the search has opened a context, for what it was asked
  pub context : Context
  pub opened : first_context (scripted script) search h ≡ Some context
  pub reads : Search context.ask ≡ first_page t ask slice cluster.shards
  -- which keeps each shard of the source, at the version that was read
  pub whole : map (λ (n : ShardCount). n.shard) context.shards ≡ range_with_len 0 cluster.shards
  -- all rows that match there are written
  pub written : HasWritten (scripted script) t h (docs_in (listed (writes_of (so_far corpus script h) cluster.shards ask.source) context))
