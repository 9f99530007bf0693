-- What a task has counted that wrote nothing.
use Rattle.task_events.specs.declared.reply.Counts.{Counts}

-- the counts of a task that wrote nothing
abbrev pub no_counts : Counts
no_counts = record { total = 0; created = 0; updated = 0; batches = 0; failures = 0 }
