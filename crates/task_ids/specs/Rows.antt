-- The rows of a shard, over the list of its writes: which of them are alive at a version, which is a number of first writes.
use Rattle.std.specs.Prelude.{ℕ, suc, List, [], ◌∷◌, Bool, ◌==◌, if◌then◌else◌, take, Option}
use Rattle.std.specs.List.{list_any}
use Rattle.std.specs.Map.{lookup}
use Rattle.std.specs.Str.{bytes_eq}
use Rattle.task_ids.specs.declared.doc.Doc.{Doc}

-- one of the documents has this id
abbrev pub has_id : List ℕ → List Doc → Bool
has_id id docs = list_any (λ doc. bytes_eq id doc.id) docs

-- a document and the place of its row in its shard: write i of a shard is its row at place i, from 0
abbrev pub Row : Type 0
Row = ℕ × Doc

-- the rows that these writes leave alive, the first of them at this place: those of which no later write has the id
abbrev pub living_rows : ℕ → List Doc → List Row
living_rows place [] = []
living_rows place (doc ∷ later) = if has_id doc.id later then living_rows (suc place) later else (place, doc) ∷ living_rows (suc place) later

-- the rows that are alive at a version, which is a number of first writes
abbrev pub rows_at : ℕ → List Doc → List Row
rows_at version writes = living_rows 0 (take version writes)

-- the row of a place, if it is alive at a version
abbrev pub row_at : ℕ → ℕ → List Doc → Option Doc
row_at version place writes = lookup (λ other. place == other) (rows_at version writes)

-- a document of this id is alive after these writes
abbrev pub is_alive : List ℕ → List Doc → Bool
is_alive id writes = list_any (λ row. bytes_eq id row.1.id) (living_rows 0 writes)
