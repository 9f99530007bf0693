-- What holds of the fields of a bulk.
use Rattle.std.specs.Prelude.{ℕ, ◌-◌, ◌*◌, ◌^◌, ◌<◌, ◌≤◌, length}
use Rattle.reindex.specs.Bulks.{Bulking}
use Rattle.task_events.specs.declared.reply.Counts.{Counts}

-- each number is at most so much
pub record AreUpTo (most : ℕ) (counts : Counts) : Type 0 where
  pub total : counts.total ≤ most
  pub created : counts.created ≤ most
  pub updated : counts.updated ≤ most
  pub batches : counts.batches ≤ most
  pub failures : counts.failures ≤ most

-- how many asks were answered
abbrev pub answered : Bulking → ℕ
answered b = b.made - length b.open_asks

pub record IsBulk (b : Bulking) (capacity : ℕ) : Type 0 where
  pub few : length b.parts < 2 ^ 32
  pub in_order : b.made ≤ length b.parts
  pub asked : length b.open_asks ≤ b.made
  -- there is room for all asks
  pub room : length b.parts ≤ capacity
  -- an answer adds at most 2^18 to each number
  pub bounded : AreUpTo (answered b * 2 ^ 18) b.counts
