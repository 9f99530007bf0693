-- Documents that were met, by index and id.
use Rattle.std.specs.Prelude.{ℕ, List, [], ◌∷◌, ◌++◌, Bool, ◌&&◌, if◌then◌else◌}
use Rattle.std.specs.List.{list_any}
use Rattle.std.specs.Str.{bytes_eq}

-- an index and an id
abbrev pub Name : Type 0
Name = List ℕ × List ℕ

-- this index and id are among the names
abbrev pub has_name : List ℕ → List ℕ → List Name → Bool
has_name index id names = list_any (λ name. bytes_eq index name.0 && bytes_eq id name.1) names

-- the names with this one, each once
abbrev pub with_name : List ℕ → List ℕ → List Name → List Name
with_name index id names = if has_name index id names then names else names ++ (index, id) ∷ []
