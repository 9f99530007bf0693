-- The rows that a shard keeps, and what contracts see of them.
use Rattle.std.specs.Prelude.{◌≡◌, ℕ, zero, suc, ◌-◌, ◌<◌, ◌≤◌, ◌==◌, nat_lt, List, [], ◌∷◌, ◌++◌, find, Option, Some, None, option_map, if◌then◌else◌}
use Rattle.task_ids.specs.declared.doc.Doc.{Doc}
use Rattle.shard_docs.specs.declared.rows.StoredRow.{StoredRow}
use Rattle.shard_docs.specs.Deaths.{is_alive_before}
use Rattle.shard_docs.specs.SeenRows.{SeenRow}

-- so many places from one on of rows that are forgotten, before the row of this document
abbrev pub gap : Doc → ℕ → ℕ → List SeenRow
gap doc place zero = []
gap doc place (suc n) = record { doc = doc; died = Some (suc (suc place)) } ∷ gap doc (suc place) n

abbrev pub seen : StoredRow → SeenRow
seen row = record { doc = row.doc; died = row.died }

-- All rows from a place on, of which these are kept: each stands behind those before it that are forgotten. A row that is not alive at the
-- version from which on rows can be read is forgotten, though it may still be there.
abbrev pub shown : ℕ → ℕ → List StoredRow → List SeenRow
shown oldest from [] = []
shown oldest from (row ∷ later) = if is_alive_before oldest row.died then gap row.doc from (row.place - from) ++ seen row ∷ shown oldest (suc row.place) later else shown oldest from later

-- What holds of a row that stands before later ones, where the rows before it have places below one.
pub record IsKeptAt (oldest from : ℕ) (row : StoredRow) (later : List StoredRow) : Type 0 where
  -- the places ascend
  pub behind : from ≤ row.place
  -- those that were swept out before it had died
  pub gap : from < row.place → row.place < oldest
  -- it dies when another is written behind it
  pub dies : (died : ℕ) → row.died ≡ Some died → suc row.place < died
  -- the last row is alive
  pub last : later ≡ [] → row.died ≡ None

abbrev pub AreKept : ℕ → ℕ → List StoredRow → Type 0
AreKept oldest from [] = Unit {0}
AreKept oldest from (row ∷ later) = IsKeptAt oldest from row later × AreKept oldest (suc row.place) later

-- how many of some rows, from the first on, have places below one
abbrev pub below : ℕ → List StoredRow → ℕ
below place [] = 0
below place (row ∷ later) = if nat_lt row.place place then suc (below place later) else 0

-- what is seen at a place: its row, or one of the next document that is kept
abbrev pub seen_at : ℕ → StoredRow → SeenRow
seen_at place row = if place == row.place then seen row else record { doc = row.doc; died = Some (suc (suc place)) }

-- what is seen at a place that none of some rows is before
abbrev pub first_seen : ℕ → ℕ → List StoredRow → Option SeenRow
first_seen oldest place rows = option_map (seen_at place) (find (λ row. is_alive_before oldest row.died) rows)
