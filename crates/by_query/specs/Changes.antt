-- Which changes are written to a shard, and what of them.
use Rattle.std.specs.Prelude.{ℕ, List, [], ◌∷◌, ◌++◌, Bool, not, ◌==◌, false, if◌then◌else◌}
use Rattle.std.specs.Option.{option_map_or}
use Rattle.task_ids.specs.declared.doc.Doc.{Doc}
use Rattle.shard_docs.specs.Candidates.{living_row}
use Rattle.by_query.specs.declared.change.Change.{Change}

-- After these writes the document is not as it was read: no row of its id is alive, or the living one is not that of its place.
abbrev pub is_in_conflict : Change → List Doc → Bool
is_in_conflict change writes = not (option_map_or (λ row. row.0 == change.place) (living_row change.id writes) false)

-- the document that a change makes
abbrev pub doc_of : Change → Doc
doc_of change = record { id = change.id; source = change.new }

-- what is written for a change after these writes
abbrev pub rewritten : Change → List Doc → List Doc
rewritten change writes = if is_in_conflict change writes then [] else doc_of change ∷ []

-- The documents that are written for changes, one after the other: each change is looked at after what was written for those before it.
abbrev pub docs_written : (writes : List Doc) → List Change → List Doc
docs_written writes [] = []
docs_written writes (change ∷ changes) = rewritten change writes ++ docs_written (writes ++ rewritten change writes) changes
