-- How far the work of a task has come: by what was asked of it, and by its asks, their answers and its turns. There it does what the plan of its kind says.
use Rattle.std.specs.Prelude.{◌≡◌, ℕ, ◌+◌, ◌-◌, List, [], ◌∷◌, ◌++◌, length, map, not, count_by, slice_set, Option, Some, None}
use Rattle.std.specs.Option.{option_or}
use Rattle.task_ids.specs.declared.cluster.Cluster.{Cluster}
use Rattle.task_ids.specs.declared.corpus.Corpus.{Corpus}
use Rattle.task_ids.specs.declared.doc.Doc.{Doc}
use Rattle.task_ids.specs.declared.task_id.TaskId.{TaskId}
use Rattle.task_events.specs.declared.context.Context.{Context}
use Rattle.task_events.specs.declared.reply.Reply.{Reply}
use Rattle.task_events.specs.declared.request.BulkAsk.{BulkAsk}
use Rattle.task_events.specs.declared.request.BulkShardAsk.{BulkShardAsk}
use Rattle.task_events.specs.declared.request.FetchAsk.{FetchAsk}
use Rattle.task_events.specs.declared.request.ReindexAsk.{ReindexAsk}
use Rattle.task_events.specs.declared.request.Request.{Request}
use Rattle.task_events.specs.declared.request.Request.TheVariants as asks
use Rattle.task_events.specs.declared.request.ShardAsk.{ShardAsk}
use Rattle.task_events.specs.declared.request.SliceAsk.{SliceAsk}
use Rattle.task_events.specs.declared.request.WriteNote.{WriteNote}
use Rattle.task_events.specs.declared.step.Asked.{Asked}
use Rattle.task_events.specs.declared.step.Do.{Do}
use Rattle.task_events.specs.Documents.{writes_at}
use Rattle.task_events.specs.Kind.{Progress}
use Rattle.task_events.specs.Kinds.{kind_of}
use Rattle.task_events.specs.Readings.{Reading, search_reading, page_reading}
use Rattle.task_events.specs.Steps.{with_answer}
use Rattle.search_phase.specs.Runs.{IsSearchAt, IsQueryAt, IsFetchAt}
use Rattle.reindex.specs.BulkRuns.{IsBulkAt}
use Rattle.reindex.specs.RootWork.{IsRootAt}
use Rattle.reindex.specs.SliceRuns.{IsSliceAt}
use Rattle.reindex.specs.Writing.{IsWritingAt}
use Rattle.task_work.specs.declared.work.Work.{Work}
use Rattle.task_work.specs.declared.work.Work.TheVariants as works
use Rattle.task_work.specs.Works.{found_top, found_hits}

-- ---- how far a task comes

-- it has asked for nothing and taken no turn; a page is of this context
abbrev pub no_progress : Option Context → Progress
no_progress page = record { page = page; asked = []; came = []; turns = 0; version = None; created = 0; updated = 0 }

-- with one ask more
abbrev pub progress_with_ask : Progress → ℕ → Progress
progress_with_ask p ask = record p { asked = p.asked ++ record { ask = ask; answer = None } ∷ []; came = p.came ++ 0 ∷ [] }

-- with the answer to an ask, at its moment
abbrev pub progress_with_answer : Progress → ℕ → Reply → ℕ → Progress
progress_with_answer p ask reply now = record p { asked = map (with_answer ask (Some reply)) p.asked; came = slice_set p.came (ask - 1) now }

-- with one turn more, over a shard that had these writes before it and of which these notes tell what was written
abbrev pub progress_with_turn : Progress → List Doc → List WriteNote → Progress
progress_with_turn p writes notes = record p {
  turns = 1 + p.turns;
  version = option_or p.version (Some (length writes));
  created = count_by (λ note. note.created) notes + p.created;
  updated = count_by (λ note. not note.created) notes + p.updated;
}

-- ---- the work of each kind that has come so far

abbrev pub IsSearchWork : Reading → Progress → Work → Type 0
IsSearchWork r p (works.Search s) = IsSearchAt r p.asked s
IsSearchWork r p _ = ⊥

-- it has found a top once it has looked at all rows
abbrev pub IsQueryWork : ShardAsk → Progress → List Doc → Work → Type 0
IsQueryWork ask p writes (works.Query q top) = IsQueryAt ask p.version p.turns writes q × (top ≡ found_top q writes)
IsQueryWork ask p writes _ = ⊥

-- it has found the documents once it has looked up all places
abbrev pub IsFetchWork : FetchAsk → Progress → List Doc → Work → Type 0
IsFetchWork ask p writes (works.Fetch f hits) = IsFetchAt ask p.turns writes f × (hits ≡ found_hits f writes)
IsFetchWork ask p writes _ = ⊥

abbrev pub IsPageAt : Option Context → List Asked → Work → Type 0
IsPageAt (Some c) asked (works.Scroll s) = IsSearchAt (page_reading c) asked s
IsPageAt (Some c) asked _ = ⊥
IsPageAt None asked work = ⊥

-- there is no page without its context
abbrev pub IsPageWork : Progress → Work → Type 0
IsPageWork p work = IsPageAt p.page p.asked work

abbrev pub IsReindexWork : TaskId → ReindexAsk → ℕ → Progress → Work → Type 0
IsReindexWork task ask shards p (works.Reindex r) = IsRootAt task ask shards p.asked p.came r
IsReindexWork task ask shards p _ = ⊥

abbrev pub IsSliceWork : TaskId → SliceAsk → ℕ → Progress → Work → Type 0
IsSliceWork task ask shards p (works.Slice s) = IsSliceAt task ask.reindex ask.slice shards p.asked p.came s
IsSliceWork task ask shards p _ = ⊥

abbrev pub IsBulkWork : BulkAsk → ℕ → Progress → Work → Type 0
IsBulkWork ask shards p (works.Bulk b) = IsBulkAt ask shards p.asked b
IsBulkWork ask shards p _ = ⊥

abbrev pub IsPartWork : BulkShardAsk → Progress → Work → Type 0
IsPartWork ask p (works.BulkShard w) = IsWritingAt ask p.turns p.created p.updated w
IsPartWork ask p _ = ⊥

-- The work of a task with this request, on indices with so many shards, has come exactly so far, where its shard has these writes.
abbrev pub IsWorkAt : TaskId → Request → ℕ → Progress → List Doc → Work → Type 0
IsWorkAt task (asks.Search ask) shards p writes work = IsSearchWork (search_reading task ask shards) p work
IsWorkAt task (asks.Query ask) shards p writes work = IsQueryWork ask p writes work
IsWorkAt task (asks.Fetch ask) shards p writes work = IsFetchWork ask p writes work
IsWorkAt task (asks.Scroll ask) shards p writes work = IsPageWork p work
IsWorkAt task (asks.Reindex ask) shards p writes work = IsReindexWork task ask shards p work
IsWorkAt task (asks.Slice ask) shards p writes work = IsSliceWork task ask shards p work
IsWorkAt task (asks.Bulk ask) shards p writes work = IsBulkWork ask shards p work
IsWorkAt task (asks.BulkShard ask) shards p writes work = IsPartWork ask p work

-- ---- what the plan says

-- the writes of the shard on which the task of a request works, where these documents were written so far
abbrev pub writes_of_request : Cluster → Corpus → Request → List Doc
writes_of_request cluster corpus request = writes_at cluster corpus (kind_of request).place

-- the next step of a task of this request at a moment, as its kind says
abbrev pub plan_of : Cluster → Corpus → TaskId → Request → Progress → ℕ → Do
plan_of cluster corpus task request p now = (kind_of request).step cluster corpus task p now

-- Wherever the work has come, the plan says this of its next step at a moment, whatever is written elsewhere.
abbrev pub AsPlanned : Work → ℕ → (Do → Type 0) → Type 0
AsPlanned work now P = (cluster : Cluster) (corpus : Corpus) (task : TaskId) (request : Request) (p : Progress)
    → IsWorkAt task request cluster.shards p (writes_of_request cluster corpus request) work → P (plan_of cluster corpus task request p now)
