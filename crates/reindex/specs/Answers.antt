-- What a task that writes can answer, and what it counts of the answers of the tasks that it asks for.
use Rattle.std.specs.Prelude.{ℕ, ◌+◌, Bool, true}
use Rattle.task_events.specs.declared.reply.Counts.{Counts}
use Rattle.task_events.specs.declared.reply.Reply.{Reply}
use Rattle.task_events.specs.declared.reply.Reply.TheVariants.{Cancelled, Rejected}
use Rattle.task_events.specs.Counting.{are_below, carried, failures_of, wrote_can_have}

-- It tells its counts, each below a limit, also where it was cancelled; or it was rejected.
abbrev pub writer_can_have : ℕ → Reply → Bool
writer_can_have limit (Cancelled task cancel counts) = are_below limit counts
writer_can_have limit (Rejected node) = true
writer_can_have limit reply = wrote_can_have limit reply

-- what was written and what failed so far, and that of one answer more
abbrev pub with_written : Counts → Reply → Counts
with_written counts reply = record {
  total = 0;
  created = counts.created + (carried reply).created;
  updated = counts.updated + (carried reply).updated;
  batches = 0;
  failures = counts.failures + failures_of reply;
}
