-- What holds of the fields of a reindex that is cut into slices.
use Rattle.std.specs.Prelude.{ℕ, ◌-◌, ◌*◌, ◌^◌, ◌≤◌, length}
use Rattle.reindex.specs.BulkFields.{AreUpTo}
use Rattle.reindex.specs.Roots.{Cutting}

pub record IsCut (c : Cutting) (capacity : ℕ) : Type 0 where
  pub in_order : c.made ≤ c.ask.slices
  pub few : c.ask.slices ≤ 32
  pub asked : length c.open_asks ≤ c.made
  -- there is room for all asks
  pub room : c.ask.slices ≤ capacity
  -- an answer adds at most 2^50 to each number
  pub bounded : AreUpTo ((c.made - length c.open_asks) * 2 ^ 50) c.counts
