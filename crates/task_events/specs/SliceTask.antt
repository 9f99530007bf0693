-- A slice of a reindex: it reads a page, has its documents written by a bulk, and goes on with the next page once its rate lets it.
-- Its asks are by turns for a page and for a bulk.
use Rattle.std.specs.Prelude.{ℕ, ◌+◌, ◌-◌, ◌%◌, ◌^◌, List, [], ◌++◌, length, codes, decimal, get_or, slice_get, map, Bool, false, ◌==◌, nat_lt, nat_le, Option, Some, None, option_and_then, count_by, if◌then◌else◌}
use Rattle.std.specs.Option.{option_map_or}
use Rattle.throttle.specs.Waits.{wait_at}
use Rattle.task_ids.specs.declared.action.Action.TheVariants as actions
use Rattle.task_ids.specs.declared.doc.Doc.{Doc}
use Rattle.task_ids.specs.declared.task_id.TaskId.{TaskId}
use Rattle.task_events.specs.declared.request.ReindexAsk.{ReindexAsk}
use Rattle.task_events.specs.declared.request.Request.{Request}
use Rattle.task_events.specs.declared.request.Request.TheVariants as asks
use Rattle.task_events.specs.declared.request.SliceAsk.{SliceAsk}
use Rattle.task_events.specs.declared.reply.Counts.{Counts}
use Rattle.task_events.specs.declared.reply.Reply.{Reply}
use Rattle.task_events.specs.declared.reply.Reply.TheVariants.{Search, Wrote}
use Rattle.task_events.specs.declared.step.Asked.{Asked}
use Rattle.task_events.specs.declared.step.Do.{Do}
use Rattle.task_events.specs.declared.step.Do.TheVariants.{AskNext, Wait, Finish}
use Rattle.task_events.specs.Counting.{answers_in, is_batch, written_in, wrote_can_have}
use Rattle.task_events.specs.Kind.{Kind}
use Rattle.task_events.specs.Slicing.{pick_of}

-- ---- what it asks for

-- the first page: a search of its part of the source, which opens a context that belongs to it and doesn't expire
abbrev pub first_page : TaskId → ReindexAsk → (slice shards : ℕ) → Request
first_page t ask slice shards = asks.Search (record {
  index = ask.source;
  body = record { query = ask.query; sort = []; from = 0; size = ask.batch };
  scroll = None;
  slice = pick_of slice ask.slices shards;
  owner = Some t;
})

-- a later page, of its context
abbrev pub later_page : TaskId → TaskId → Request
later_page t context = asks.Scroll (record { id = context; keep = None; owner = Some t })

-- a bulk of these documents
abbrev pub bulk_of : ReindexAsk → List Doc → Request
bulk_of ask docs = asks.Bulk (record { dest = ask.dest; docs = docs })

-- ---- what its answers say

-- the documents of a page
abbrev pub docs_on : Reply → List Doc
docs_on (Search page) = map (λ hit. hit.doc) page.hits
docs_on _ = []

abbrev pub context_in : Reply → Option TaskId
context_in (Search page) = page.context
context_in _ = None

abbrev pub total_in : Reply → ℕ
total_in (Search page) = page.total
total_in _ = 0

-- the answer to an ask, counted from 0
abbrev pub answer_at : List Asked → ℕ → Option Reply
answer_at asked i = option_and_then (λ a. a.answer) (slice_get asked i)

-- a bulk that ended well, without a failure
abbrev pub is_clean : Reply → Bool
is_clean (Wrote counts) = counts.failures == 0
is_clean _ = false

-- What it has counted: the total is that of its first page.
abbrev pub slice_counts : List Asked → Counts
slice_counts asked = record (written_in (answers_in asked)) {
  total = option_map_or total_in (answer_at asked 0) 0;
  batches = count_by is_batch (answers_in asked);
}

-- ---- what it does next

-- how many asks it makes at most, of which every second is for a page; a history ends before
unfoldable pub most_asks : ℕ
most_asks = 2000000

-- after a page it has the documents written, where there are some and no shard failed
abbrev pub after_page : ReindexAsk → Do → Option Reply → Do
after_page ask end None = Wait None
after_page ask end (Some page) = if is_batch page then AskNext (bulk_of ask (docs_on page)) else end

-- it asks for a later page from a moment on
abbrev pub page_from : TaskId → Option TaskId → ℕ → ℕ → Do
page_from t None due now = Wait None
page_from t (Some context) due now = if nat_le due now then AskNext (later_page t context) else Wait (Some due)

-- from when on: so long after the bulk as its batch takes at the rate, without what was spent since its page
abbrev pub due_after : ReindexAsk → List Asked → List ℕ → ℕ → ℕ
due_after ask asked came bulk =
    let page = bulk - 1 in
    let answered = get_or came bulk 0 in
    let batch = option_map_or (λ reply. length (docs_on reply)) (answer_at asked page) 0 in
    answered + wait_at ask.rate batch ask.slices (answered - get_or came page 0)

-- after a bulk it goes on at the due moment, where nothing has failed
abbrev pub after_bulk : Do → Do → Option Reply → Do
after_bulk goes_on end None = Wait None
after_bulk goes_on end (Some reply) = if is_clean reply then goes_on else end

-- what a slice of a reindex of an index with so many shards does next
abbrev pub slice_step : TaskId → ReindexAsk → (slice shards : ℕ) → List Asked → List ℕ → ℕ → Do
slice_step t ask slice shards asked came now =
    let made = length asked in
    let newest = made - 1 in
    let end = Finish (Wrote (slice_counts asked)) in
    let context = option_and_then context_in (answer_at asked 0) in
    let goes_on = if nat_lt made most_asks then page_from t context (due_after ask asked came newest) now else Wait None in
    if made == 0 then AskNext (first_page t ask slice shards)
    else if made % 2 == 1 then after_page ask end (answer_at asked newest)
    else after_bulk goes_on end (answer_at asked newest)

-- ---- the kind

-- what a reindex works on, as a detailed task list shows it
abbrev pub reindex_description : ReindexAsk → List ℕ
reindex_description ask = codes "reindex from [" ++ ask.source ++ codes "] to [" ++ ask.dest ++ codes "]"

abbrev pub slice_task : SliceAsk → Kind
slice_task s = record {
  action = actions.Reindex;
  description = reindex_description s.reindex ++ codes " slice[" ++ decimal s.slice ++ codes "/" ++ decimal s.reindex.slices ++ codes "]";
  place = None;
  docs = [];
  step = λ cluster corpus t p now. slice_step t s.reindex s.slice cluster.shards p.asked p.came now;
  counts = λ p. slice_counts p.asked;
  limit = 2 ^ 50;
  replies = λ shards reply. wrote_can_have (2 ^ 50) reply;
}
