-- What stays of a shard when rows are forgotten.
use Rattle.std.specs.Prelude.{◌≡◌, ℕ, ◌≤◌, List, length}
use Rattle.task_ids.specs.declared.doc.Doc.{Doc}
use Rattle.task_ids.specs.Rows.{rows_at}

-- There are as many places, and from a version on the same rows are alive.
pub record ShowsFrom (oldest : ℕ) (writes shown : List Doc) : Type 0 where
  pub as_many : length shown ≡ length writes
  pub rows : (version : ℕ) → oldest ≤ version → rows_at version shown ≡ rows_at version writes
