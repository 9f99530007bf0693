-- What the nodes of a cluster have told, one part each: nothing yet, or a list.
use Rattle.std.specs.Prelude.{ℕ, zero, suc, Bool, List, [], Option, None, Some, is_some, replicate, slice_get}
use Rattle.std.specs.List.{flat_map, list_all, slice_set}
use Rattle.std.specs.Option.{unwrap_or}

-- none of so many nodes has told anything
abbrev pub nothing_told : {X : Type 0} → ℕ → List (Option (List X))
nothing_told nodes = replicate nodes None

-- each node has told its part
abbrev pub is_whole : {X : Type 0} → List (Option (List X)) → Bool
is_whole parts = list_all is_some parts

-- all that was told, by the nodes in order
abbrev pub all_told : {X : Type 0} → List (Option (List X)) → List X
all_told parts = flat_map (λ part. unwrap_or part []) parts

-- a part goes to a place that has none
abbrev pub put_at : {X : Type 0} → List (Option (List X)) → ℕ → Option (Option (List X)) → List X → List (Option (List X))
put_at parts place (Some None) part = slice_set parts place (Some part)
put_at parts place (Some (Some earlier)) part = parts
put_at parts place None part = parts

-- A node, numbered from 1, tells its part. A second one, and one of a node that is not there, is passed over.
abbrev pub with_part : {X : Type 0} → List (Option (List X)) → ℕ → List X → List (Option (List X))
with_part parts zero part = parts
with_part parts (suc place) part = put_at parts place (slice_get parts place) part
