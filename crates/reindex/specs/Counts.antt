-- Counts that are bounded.
use Rattle.std.specs.Prelude.{ℕ, ◌<◌}
use Rattle.task_events.specs.declared.reply.Counts.{Counts}

-- each number is below a limit
pub record AreBelow (limit : ℕ) (counts : Counts) : Type 0 where
  pub total : counts.total < limit
  pub created : counts.created < limit
  pub updated : counts.updated < limit
  pub batches : counts.batches < limit
  pub failures : counts.failures < limit
