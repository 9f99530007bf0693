-- What the tables of a shard say of its writes.
use Rattle.std.specs.Prelude.{◌≡◌, ℕ, suc, ◌+◌, ◌<◌, ◌≤◌, ◌^◌, nat_le, List, [], ◌∷◌, length, map, count_by, Option, Some, None, if◌then◌else◌, String}
use Rattle.std.specs.List.{All}
use Rattle.std.specs.List.Sorted.{IsNonDecreasing}
use Rattle.std.specs.Str.{bytes_eq}
use Rattle.std.specs.HashMap.{HashMap, get_by_text}
use Rattle.std.specs.declared.alloc.Global.{Global}
use Rattle.std.specs.declared.hash.FoldHasher.{FoldHasher}
use Rattle.std.specs.declared.hash.BuildHasherDefault.{BuildHasherDefault}
use Rattle.task_ids.specs.declared.doc.Doc.{Doc}
use Rattle.shard_docs.specs.SeenRows.{SeenRow}
use Rattle.shard_docs.specs.ShardView.{dead_rows}

-- the version at which the row of an id dies by the writes that come after it, of which the first has this place
abbrev pub died_at : List ℕ → ℕ → List Doc → Option ℕ
died_at id place [] = None
died_at id place (doc ∷ later) = if bytes_eq id doc.id then Some (suc place) else died_at id (suc place) later

-- of each of some writes, of which the first has this place, the version at which its row dies
abbrev pub deaths : ℕ → List Doc → List (Option ℕ)
deaths place [] = []
deaths place (doc ∷ later) = died_at doc.id (suc place) later ∷ deaths (suc place) later

-- one place further, if there is one, and else 0 where this is the write of the id
abbrev pub further : Option ℕ → Option ℕ → Option ℕ
further None here = here
further (Some place) here = Some (suc place)

-- the place of the last write of an id
abbrev pub last_place : List ℕ → List Doc → Option ℕ
last_place id [] = None
last_place id (doc ∷ later) = further (last_place id later) (if bytes_eq id doc.id then Some 0 else None)

-- the rows keep at which version they died, and the table has the place of the last write of each id
pub record IsTables (rows : List SeenRow) (living : HashMap (String Global) ℕ (BuildHasherDefault FoldHasher)) : Type 0 where
  pub few : length rows < 2 ^ 32
  pub died : map (λ row. row.died) rows ≡ deaths 0 (map (λ row. row.doc) rows)
  pub places : (id : List ℕ) → get_by_text living id ≡ last_place id (map (λ row. row.doc) rows)

-- The deaths that are kept are those above the oldest version: they ascend, and up to each version from that one on there are as many as rows died.
pub record AreDeaths (oldest : ℕ) (writes : List Doc) (deaths : List ℕ) : Type 0 where
  pub ascend : IsNonDecreasing deaths
  pub within : All (λ died. died ≤ length writes) deaths
  pub counted : (version : ℕ) → oldest ≤ version → dead_rows oldest writes + count_by (λ died. nat_le died version) deaths ≡ dead_rows version writes
