-- What a task has counted that rewrote nothing.
use Rattle.by_query.specs.declared.counts.UpdateCounts.{UpdateCounts}

abbrev pub no_updates : UpdateCounts
no_updates = record { total = 0; updated = 0; batches = 0; failures = 0; conflicts = 0 }
