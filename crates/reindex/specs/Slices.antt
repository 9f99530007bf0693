-- A slice of a reindex: what it does next, and what it is after an ask and after an answer.
use Rattle.std.specs.Prelude.{◌≡◌, ℕ, ◌+◌, ◌-◌, ◌^◌, List, Bool, true, false, ◌&&◌, ◌==◌, nat_lt, length, Option, None, Some, if◌then◌else◌}
use Rattle.throttle.specs.declared.rate.Rate.{Rate}
use Rattle.throttle.specs.Waits.{per_second, wait_of}
use Rattle.task_ids.specs.declared.task_id.TaskId.{TaskId}
use Rattle.task_events.specs.declared.request.ReindexAsk.{ReindexAsk}
use Rattle.task_events.specs.declared.request.Request.{Request}
use Rattle.task_events.specs.declared.request.Request.TheVariants as asks
use Rattle.task_events.specs.declared.request.SearchAsk.{SearchAsk}
use Rattle.task_events.specs.declared.reply.Counts.{Counts}
use Rattle.task_events.specs.declared.reply.Reply.{Reply}
use Rattle.task_events.specs.declared.reply.Reply.TheVariants.{Wrote}
use Rattle.task_events.specs.declared.step.Do.{Do}
use Rattle.task_events.specs.declared.step.Do.TheVariants.{AskNext, Turn, Wait, Finish}
use Rattle.task_events.specs.Counting.{carried, failures_of, is_batch}
use Rattle.task_events.specs.Kinds.{can_have}
use Rattle.task_events.specs.SliceTask.{first_page, later_page, docs_on, context_in, total_in, is_clean, page_from}
pub use Rattle.task_events.specs.Waiting.{due_in}
use Rattle.task_events.specs.Tasks.{no_counts}
use Rattle.reindex.specs.Answers.{writer_can_have}
use Rattle.reindex.specs.declared.phase.Phase.{Phase}
use Rattle.reindex.specs.declared.phase.Phase.TheVariants.{First, Reads, Holds, Writes, Rests, Over}

pub record Slicing : Type 0 where
  -- the slice's task
  pub task : TaskId
  -- how many shards the index has that it reads
  pub shards : ℕ
  -- the search of its first page
  pub first : SearchAsk
  -- the index to which it writes
  pub dest : List ℕ
  -- how many slices there are
  pub slices : ℕ
  pub rate : Rate
  -- the context that its first page opened
  pub context : Option TaskId
  pub phase : Phase
  -- how many asks it has made, by turns for a page and for a bulk
  pub made : ℕ
  pub counts : Counts

-- this slice of a reindex of an index with so many shards has asked for nothing yet
pub record IsNewSlice (task : TaskId) (ask : ReindexAsk) (slice shards : ℕ) (s : Slicing) : Type 0 where
  pub task_is : s.task ≡ task
  pub shards_are : s.shards ≡ shards
  pub first_is : asks.Search s.first ≡ first_page task ask slice shards
  pub dest_is : s.dest ≡ ask.dest
  pub slices_are : s.slices ≡ ask.slices
  pub rate_is : per_second s.rate ≡ ask.rate
  pub context_is : s.context ≡ None
  pub phase_is : s.phase ≡ First
  pub made_is : s.made ≡ 0
  pub counts_are : s.counts ≡ no_counts

-- ---- what it does next

-- it waits for an answer
abbrev pub is_open : Phase → Bool
is_open (Reads ask) = true
is_open (Writes ask docs came) = true
is_open First = false
is_open (Holds docs came) = false
is_open (Rests until) = false
is_open Over = false

-- It asks for a page, and then for the bulk of its documents. The next page it asks for from a moment on, where asks are left.
abbrev pub next_in : Slicing → ℕ → Phase → Do
next_in s now First = AskNext (asks.Search s.first)
next_in s now (Reads ask) = Wait None
next_in s now (Holds docs came) = AskNext (asks.Bulk (record { dest = s.dest; docs = docs }))
next_in s now (Writes ask docs came) = Wait None
next_in s now (Rests until) = if nat_lt s.made 2000000 then page_from s.task s.context until now else Wait None
next_in s now Over = Finish (Wrote s.counts)

abbrev pub slice_next : Slicing → ℕ → Do
slice_next s now = next_in s now s.phase

-- ---- asks

-- it asks at some moment
abbrev pub may_ask_in : ℕ → Phase → Bool
may_ask_in made First = true
may_ask_in made (Holds docs came) = true
may_ask_in made (Rests until) = nat_lt made 2000000
may_ask_in made (Reads ask) = false
may_ask_in made (Writes ask docs came) = false
may_ask_in made Over = false

abbrev pub slice_may_ask : Slicing → Bool
slice_may_ask s = may_ask_in s.made s.phase

abbrev pub phase_with : Phase → ℕ → Phase
phase_with First ask = Reads ask
phase_with (Rests until) ask = Reads ask
phase_with (Holds docs came) ask = Writes ask (length docs) came
phase_with (Reads open_ask) ask = Reads open_ask
phase_with (Writes open_ask docs came) ask = Writes open_ask docs came
phase_with Over ask = Over

abbrev pub slice_with_ask : Slicing → ℕ → Slicing
slice_with_ask s ask = record s { phase = phase_with s.phase ask; made = s.made + 1 }

-- ---- answers

-- the page for which it has asked: the first, or a later one of its context
abbrev pub page_asked : Slicing → Option TaskId → Request
page_asked s None = asks.Search s.first
page_asked s (Some context) = later_page s.task context

-- the ask has no answer yet, and the reply is one that its request can have
abbrev pub takes_in : Slicing → ℕ → Reply → Phase → Bool
takes_in s ask reply (Reads open_ask) = (open_ask == ask) && can_have s.shards (page_asked s s.context) reply
takes_in s ask reply (Writes open_ask docs came) = (open_ask == ask) && writer_can_have (2 ^ 22) reply
takes_in s ask reply First = false
takes_in s ask reply (Holds docs came) = false
takes_in s ask reply (Rests until) = false
takes_in s ask reply Over = false

abbrev pub slice_takes : Slicing → ℕ → Reply → Bool
slice_takes s ask reply = takes_in s ask reply s.phase

-- It goes on with a page that is a batch, and with a bulk that is clean, from the due moment on. Any other answer ends it.
abbrev pub phase_after : (slices : ℕ) → Rate → Phase → Reply → (now : ℕ) → Phase
phase_after slices rate (Reads ask) reply now = if is_batch reply then Holds (docs_on reply) now else Over
phase_after slices rate (Writes ask docs came) reply now = if is_clean reply then Rests (now + wait_of docs slices rate (now - came)) else Over
phase_after slices rate First reply now = Over
phase_after slices rate (Holds docs came) reply now = Over
phase_after slices rate (Rests until) reply now = Over
phase_after slices rate Over reply now = Over

-- the context is that of the first page
abbrev pub context_after : (made : ℕ) → Option TaskId → Reply → Option TaskId
context_after made context reply = if made == 1 then context_in reply else context

-- the total is that of the first page, and the rest are sums
abbrev pub counts_after : (made : ℕ) → Counts → Reply → Counts
counts_after made counts reply = record {
  total = if made == 1 then total_in reply else counts.total;
  created = counts.created + (carried reply).created;
  updated = counts.updated + (carried reply).updated;
  batches = counts.batches + (if is_batch reply then 1 else 0);
  failures = counts.failures + failures_of reply;
}

-- after the answer to an ask at a moment
abbrev pub slice_with_answer : Slicing → ℕ → Reply → ℕ → Slicing
slice_with_answer s ask reply now = record s {
  context = context_after s.made s.context reply;
  phase = phase_after s.slices s.rate s.phase reply now;
  counts = counts_after s.made s.counts reply;
}
