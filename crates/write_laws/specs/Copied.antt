-- Which documents a task and its descendants have written: with each write the next document of the request of the task whose turn it is.
use Rattle.std.specs.Prelude.{ℕ, ◌-◌, ◌≡◌, ◌==◌, ◌&&◌, List, length, Bool, true, false, count_by}
use Rattle.std.specs.List.{flat_map}
use Rattle.std.specs.Option.{option_map_or}
use Rattle.task_ids.specs.declared.doc.Doc.{Doc}
use Rattle.task_ids.specs.declared.task_id.TaskId.{TaskId}
use Rattle.task_events.specs.declared.event.Event.{Event}
use Rattle.task_events.specs.declared.reply.Reply.{Reply}
use Rattle.task_events.specs.declared.reply.Reply.TheVariants.{Search}
use Rattle.task_events.specs.declared.step.Asked.{Asked}
use Rattle.task_events.specs.Counting.{answers_in}
use Rattle.task_events.specs.Requests.{Scripted}
use Rattle.task_events.specs.SliceTask.{answer_at, docs_on}
use Rattle.task_events.specs.Written.{next_doc}
use Rattle.write_laws.specs.TreeWrites.{tree_number}

-- how many documents that pass a test t and its descendants have written
abbrev pub tree_docs : Scripted → (Doc → Bool) → TaskId → List Event → ℕ
tree_docs said test t h = tree_number (λ outcome past. option_map_or test (next_doc said past) false) t h

-- t and its descendants have written these documents, each as often as it is among them, and nothing else
pub record HasWritten (said : Scripted) (t : TaskId) (h : List Event) (docs : List Doc) : Type 0 where
  -- of the documents that pass a test as many as there are, whichever it is
  pub each : (test : Doc → Bool) → tree_docs said test t h ≡ count_by test docs
  -- no more writes than documents
  pub no_more : tree_number (λ outcome past. true) t h ≡ length docs

-- the documents of the pages among the answers to a task's asks
abbrev pub docs_shown : List Asked → List Doc
docs_shown asked = flat_map docs_on (answers_in asked)

-- a page that shows nothing, and of which no shard failed
abbrev pub is_end : Reply → Bool
is_end (Search page) = (length page.failed == 0) && (length page.hits == 0)
is_end _ = false

-- the newest answer to a task's asks is such a page
abbrev pub has_read_all : List Asked → Bool
has_read_all asked = option_map_or is_end (answer_at asked (length asked - 1)) false
