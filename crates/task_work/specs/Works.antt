-- What the work of a task does next, and what it is after an ask, an answer and a turn.
use Rattle.std.specs.Prelude.{◌≡◌, ℕ, ◌+◌, List, [], ◌++◌, take, drop, Bool, false, ◌&&◌, ◌||◌, true, is_some, Option, Some, None, option_map, if◌then◌else◌}
use Rattle.task_ids.specs.declared.task_id.TaskId.{TaskId}
use Rattle.task_ids.specs.declared.doc.Doc.{Doc}
use Rattle.task_events.specs.declared.context.Context.{Context}
use Rattle.task_events.specs.declared.request.ReindexAsk.{ReindexAsk}
use Rattle.task_events.specs.declared.request.Request.{Request}
use Rattle.task_events.specs.declared.request.Request.TheVariants as asks
use Rattle.task_events.specs.declared.request.SliceAsk.{SliceAsk}
use Rattle.task_events.specs.declared.request.WriteNote.{WriteNote}
use Rattle.task_events.specs.declared.reply.Counts.{Counts}
use Rattle.task_events.specs.declared.reply.Hit.{Hit}
use Rattle.task_events.specs.declared.reply.ShardTop.{ShardTop}
use Rattle.task_events.specs.declared.reply.Reply.{Reply}
use Rattle.task_events.specs.declared.step.Do.{Do}
use Rattle.task_events.specs.declared.step.Do.TheVariants as steps
use Rattle.task_events.specs.Answers.{shard_top, fetched}
use Rattle.task_events.specs.FetchTask.{fetch_step}
use Rattle.task_events.specs.QueryTask.{query_step}
use Rattle.task_events.specs.Readings.{search_reading, page_reading}
use Rattle.task_events.specs.Tasks.{no_counts}
use Rattle.task_events.specs.Written.{notes_at}
use Rattle.search_phase.specs.Queries as queries
use Rattle.search_phase.specs.Queries.{QueryState, IsQueried, new_query, version_at, has_ended, has_none_left, queried}
use Rattle.search_phase.specs.Fetches as fetches
use Rattle.search_phase.specs.Fetches.{FetchState, IsFetched, new_fetch, has_fetched, fetched_in}
use Rattle.search_phase.specs.Searching.{Searching, new_search, next_step, wants_to_ask, is_above, with_ask, takes, with_answer, AllHonest, plain_reply}
pub use Rattle.search_phase.specs.Searching.{does_wait}
use Rattle.reindex.specs.BulkRuns.{IsBulkAt}
use Rattle.reindex.specs.Bulks.{new_bulk, bulk_next, bulk_may_ask, bulk_with_ask, bulk_takes, bulk_with_answer}
use Rattle.reindex.specs.RootWork.{IsNewRoot, IsRootAt, root_next, root_may_ask, root_with_ask, root_takes, root_with_answer, root_counts}
use Rattle.reindex.specs.SliceRuns.{IsSliceAt}
use Rattle.reindex.specs.Slices.{IsNewSlice, slice_next, slice_may_ask, slice_with_ask, slice_takes, slice_with_answer}
pub use Rattle.reindex.specs.Slices.{due_in}
use Rattle.reindex.specs.Writing.{IsWritingAt, new_writing, writing_next, writing_counts, next_docs, after_turn}
use Rattle.task_work.specs.declared.work.Work.{Work}
use Rattle.task_work.specs.declared.work.Work.TheVariants.{Search, Query, Fetch, Scroll, Reindex, Slice, Bulk, BulkShard}

-- the request asks for a page of a search
abbrev pub is_page : Request → Bool
is_page (asks.Scroll ask) = true
is_page _ = false

-- The work of a new task, on indices with so many shards. That of a page is over its context, and there is none without one.
-- That of a reindex and of a slice is told by what it is.
abbrev pub new_work : TaskId → Request → ℕ → Option Context → Option Work
new_work task (asks.Search ask) shards context = Some (Search (new_search (search_reading task ask shards)))
new_work task (asks.Query ask) shards context = Some (Query (new_query ask) None)
new_work task (asks.Fetch ask) shards context = Some (Fetch (new_fetch ask) None)
new_work task (asks.Scroll ask) shards context = option_map (λ c. Scroll (new_search (page_reading c))) context
new_work task (asks.Bulk ask) shards context = Some (Bulk (new_bulk ask shards))
new_work task (asks.BulkShard ask) shards context = Some (BulkShard (new_writing ask))
new_work task (asks.Reindex ask) shards context = None
new_work task (asks.Slice ask) shards context = None

-- the work of a reindex that has asked for nothing yet
abbrev pub IsNewReindex : TaskId → ReindexAsk → ℕ → Work → Type 0
IsNewReindex task ask shards (Reindex r) = IsNewRoot task ask shards r
IsNewReindex task ask shards work = ⊥

-- the work of a slice that has asked for nothing yet
abbrev pub IsNewPart : TaskId → SliceAsk → ℕ → Work → Type 0
IsNewPart task ask shards (Slice s) = IsNewSlice task ask.reindex ask.slice shards s
IsNewPart task ask shards work = ⊥

-- the work of a new task, of any kind
abbrev pub IsNewWork : TaskId → Request → ℕ → Option Context → Work → Type 0
IsNewWork task (asks.Reindex ask) shards context work = IsNewReindex task ask shards work
IsNewWork task (asks.Slice ask) shards context work = IsNewPart task ask shards work
IsNewWork task request shards context work = new_work task request shards context ≡ Some work

-- So far it has asked for nothing and written nothing: each kind that asks by turns or writes is tied to no asks and no turns.
abbrev pub IsBegun : TaskId → Request → ℕ → Work → Type 0
IsBegun task (asks.Reindex ask) shards (Reindex r) = IsRootAt task ask shards [] [] r
IsBegun task (asks.Slice ask) shards (Slice s) = IsSliceAt task ask.reindex ask.slice shards [] [] s
IsBegun task (asks.Bulk ask) shards (Bulk b) = IsBulkAt ask shards [] b
IsBegun task (asks.BulkShard ask) shards (BulkShard w) = IsWritingAt ask 0 0 0 w
IsBegun task request shards work = Unit {0}

-- ---- work on a shard

-- the top of a query that has looked at all rows
abbrev pub found_top : QueryState → List Doc → Option ShardTop
found_top q writes = if has_ended q writes then Some (shard_top q.ask (version_at q writes) writes) else None

-- the documents of a fetch that has looked up all places
abbrev pub found_hits : FetchState → List Doc → Option (List Hit)
found_hits f writes = if has_fetched f then Some (fetched f.ask writes) else None

-- The work has come so far by turns over a shard with these writes. Only a query and a fetch look at what their shard has.
abbrev pub IsWorkOn : Work → List Doc → Type 0
IsWorkOn (Query q top) writes = IsQueried q writes × (top ≡ found_top q writes)
IsWorkOn (Fetch f hits) writes = IsFetched f writes × (hits ≡ found_hits f writes)
IsWorkOn _ writes = Unit {0}

-- the index and the shard of which it looks at the documents, or to which it writes, where it works on one
abbrev pub place_of : Work → Option (List ℕ × ℕ)
place_of (Query q top) = Some (q.ask.index, q.ask.shard)
place_of (Fetch f hits) = Some (f.ask.index, f.ask.shard)
place_of (BulkShard w) = Some (w.index, w.shard)
place_of _ = None

-- what it does next at a moment, where it works on a shard with these writes
abbrev pub next_of : Work → List Doc → ℕ → Do
next_of (Search s) writes now = next_step s
next_of (Query q top) writes now = query_step q.ask (version_at q writes) q.turns writes
next_of (Fetch f hits) writes now = fetch_step f.ask f.turns writes
next_of (Scroll s) writes now = next_step s
next_of (Reindex r) writes now = root_next r now
next_of (Slice s) writes now = slice_next s now
next_of (Bulk b) writes now = bulk_next b
next_of (BulkShard w) writes now = writing_next w

abbrev pub query_after : QueryState → List Doc → Work
query_after q writes = Query q (found_top q writes)

abbrev pub fetch_after : FetchState → List Doc → Work
fetch_after f writes = Fetch f (found_hits f writes)

-- the work after one more turn over a shard with these writes
abbrev pub with_turn : Work → List Doc → Work
with_turn (Query q top) writes = query_after (queried q.ask (version_at q writes) (q.turns + 1) writes) writes
with_turn (Fetch f hits) writes = fetch_after (fetched_in f.ask (f.turns + 1) writes) writes
with_turn (BulkShard w) writes = BulkShard (after_turn w writes)
with_turn work writes = work

-- One more turn was taken, over a shard with these writes, whatever the turns before were over. What was found is there once
-- nothing is left to look at.
abbrev pub HasTurned : Work → List Doc → Work → Type 0
HasTurned (Query q top) writes (Query r found) = queries.HasTurned q writes r × (is_some found ≡ (is_some top || has_none_left r writes))
HasTurned (Fetch f hits) writes (Fetch g found) = fetches.HasTurned f g × (is_some found ≡ (is_some hits || has_fetched g))
HasTurned (BulkShard w) writes (BulkShard v) = v ≡ after_turn w writes
HasTurned before writes after = ⊥

-- ---- what it writes and counts

-- the documents that its next turn writes: only a part of a bulk writes any
abbrev pub docs_next : Work → List Doc
docs_next (BulkShard w) = next_docs w
docs_next _ = []

-- the notes of what its next turn writes, after these writes
abbrev pub work_notes : Work → List Doc → List WriteNote
work_notes work writes = notes_at (place_of work) writes (docs_next work)

-- what it has counted so far: a task that only reads counts nothing
abbrev pub counts_of : Work → Counts
counts_of (Reindex r) = root_counts r
counts_of (Slice s) = s.counts
counts_of (Bulk b) = b.counts
counts_of (BulkShard w) = writing_counts w
counts_of _ = no_counts

-- Work whose turn broke off is used no more. Of what a part of a bulk had left the first documents are gone, and nothing is counted.
abbrev pub HasLost : Work → Work → Type 0
HasLost (BulkShard w) (BulkShard v) = (gone : ℕ) × (v ≡ record w { left = drop gone w.left })
HasLost before after = after ≡ before

-- A turn broke off: of the documents that it writes the first ones were written, in order.
pub record BrokeOff (before after : Work) (writes now : List Doc) : Type 0 where
  pub written : ℕ
  pub now_is : now ≡ writes ++ take written (docs_next before)
  pub work_is : HasLost before after

-- ---- asks and answers: what works on a shard asks for nothing

-- It asks for a child next. For a search and a page the number is above those of all its asks.
abbrev pub can_ask : Work → ℕ → Bool
can_ask (Search s) ask = wants_to_ask (next_step s) && is_above ask s.asked
can_ask (Scroll s) ask = wants_to_ask (next_step s) && is_above ask s.asked
can_ask (Reindex r) ask = root_may_ask r
can_ask (Slice s) ask = slice_may_ask s
can_ask (Bulk b) ask = bulk_may_ask b
can_ask _ ask = false

abbrev pub work_with_ask : Work → ℕ → Work
work_with_ask (Search s) ask = Search (with_ask s ask)
work_with_ask (Scroll s) ask = Scroll (with_ask s ask)
work_with_ask (Reindex r) ask = Reindex (root_with_ask r ask)
work_with_ask (Slice s) ask = Slice (slice_with_ask s ask)
work_with_ask (Bulk b) ask = Bulk (bulk_with_ask b ask)
work_with_ask work ask = work

-- the ask has no answer yet, and the reply is one that its request can have
abbrev pub work_takes : Work → ℕ → Reply → Bool
work_takes (Search s) ask reply = takes s ask reply
work_takes (Scroll s) ask reply = takes s ask reply
work_takes (Reindex r) ask reply = root_takes r ask reply
work_takes (Slice s) ask reply = slice_takes s ask reply
work_takes (Bulk b) ask reply = bulk_takes b ask reply
work_takes _ ask reply = false

-- after an answer at a moment
abbrev pub work_with_answer : Work → ℕ → Reply → ℕ → Work
work_with_answer (Search s) ask reply now = Search (with_answer s ask reply)
work_with_answer (Scroll s) ask reply now = Scroll (with_answer s ask reply)
work_with_answer (Reindex r) ask reply now = Reindex (root_with_answer r ask reply now)
work_with_answer (Slice s) ask reply now = Slice (slice_with_answer s ask reply now)
work_with_answer (Bulk b) ask reply now = Bulk (bulk_with_answer b ask reply)
work_with_answer work ask reply now = work

-- ---- the plain answer

-- where every answer to a search is honest, it ends with the plain answer
abbrev pub SearchEndsPlainly : Searching → Do → Type 0
SearchEndsPlainly s step = (writes : ℕ → List Doc) (reply : Reply) → AllHonest writes s → step ≡ steps.Finish reply → reply ≡ plain_reply writes s

-- and so does a page
abbrev pub EndsPlainly : Work → Do → Type 0
EndsPlainly (Search s) step = SearchEndsPlainly s step
EndsPlainly (Scroll s) step = SearchEndsPlainly s step
EndsPlainly _ step = Unit {0}
