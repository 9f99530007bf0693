-- Rows that a search looks at: those that have what it picks.
use Rattle.std.specs.Prelude.{ℕ, List, Bool, true, false, Option, None, Some, map, filter, find, nat_lt}
use Rattle.std.specs.Option.{option_map_or}
use Rattle.std.specs.Str.{bytes_eq}
use Rattle.task_ids.specs.declared.doc.Doc.{Doc}
use Rattle.task_ids.specs.Rows.{Row, living_rows, rows_at, row_at}
use Rattle.query_match.specs.Picks.{Picked, has_picked}

-- the rows that are alive at a version and have the picked value, where one is picked
abbrev pub candidates : Option Picked → ℕ → List Doc → List Row
candidates pick version writes = filter (λ row. has_picked pick row.1.source) (rows_at version writes)

-- a place comes after another, where there is one
abbrev pub is_above : Option ℕ → ℕ → Bool
is_above None place = true
is_above (Some after) place = nat_lt after place

-- the places of those above a place
abbrev pub next_places : Option Picked → ℕ → Option ℕ → List Doc → List ℕ
next_places pick version after writes = map (λ row. row.0) (filter (λ row. is_above after row.0) (candidates pick version writes))

-- the row of an id that these writes leave alive
abbrev pub living_row : List ℕ → List Doc → Option Row
living_row id writes = find (λ row. bytes_eq id row.1.id) (living_rows 0 writes)

-- the row of a place is alive at a version and has the picked value, where one is picked
abbrev pub is_candidate : Option Picked → ℕ → List Doc → ℕ → Bool
is_candidate pick version writes place = option_map_or (λ doc. has_picked pick doc.source) (row_at version place writes) false
