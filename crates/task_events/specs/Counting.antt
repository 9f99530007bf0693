-- What tasks that write count, of themselves and by the answers of those that they ask for.
use Rattle.std.specs.Prelude.{ℕ, ◌+◌, List, length, Bool, false, not, ◌&&◌, ◌==◌, nat_lt, filter_map}
use Rattle.std.specs.List.{sum_by}
use Rattle.task_events.specs.declared.reply.Counts.{Counts}
use Rattle.task_events.specs.declared.reply.Reply.{Reply}
use Rattle.task_events.specs.declared.reply.Reply.TheVariants.{Search, AllFailed, Wrote, Cancelled, Rejected}
use Rattle.task_events.specs.declared.step.Asked.{Asked}
use Rattle.task_events.specs.Tasks.{no_counts}

-- each number is below a limit
abbrev pub are_below : ℕ → Counts → Bool
are_below limit counts = nat_lt counts.total limit && nat_lt counts.created limit && nat_lt counts.updated limit && nat_lt counts.batches limit && nat_lt counts.failures limit

-- the counts that an answer carries
abbrev pub carried : Reply → Counts
carried (Wrote counts) = counts
carried (Cancelled t c counts) = counts
carried _ = no_counts

-- Each failed shard of a page counts, each failure that an answer tells of, and an answer that is not good once besides.
abbrev pub failures_of : Reply → ℕ
failures_of (Search page) = length page.failed
failures_of (AllFailed shards) = 1
failures_of (Cancelled t c counts) = counts.failures + 1
failures_of (Rejected n) = 1
failures_of (Wrote counts) = counts.failures
failures_of _ = 0

-- a page that is written: it has hits, and no shard failed
abbrev pub is_batch : Reply → Bool
is_batch (Search page) = (length page.failed == 0) && not (length page.hits == 0)
is_batch _ = false

abbrev pub answers_in : List Asked → List Reply
answers_in asked = filter_map (λ a. a.answer) asked

-- what was written, and what failed, as the answers tell
abbrev pub written_in : List Reply → Counts
written_in answers = record {
  total = 0;
  created = sum_by (λ reply. (carried reply).created) answers;
  updated = sum_by (λ reply. (carried reply).updated) answers;
  batches = 0;
  failures = sum_by failures_of answers;
}

-- that, and the sums of what was found and read
abbrev pub sums_of : List Reply → Counts
sums_of answers = record (written_in answers) {
  total = sum_by (λ reply. (carried reply).total) answers;
  batches = sum_by (λ reply. (carried reply).batches) answers;
}

-- such a task replies with its counts, each below a limit
abbrev pub wrote_can_have : ℕ → Reply → Bool
wrote_can_have limit (Wrote counts) = are_below limit counts
wrote_can_have limit _ = false
