-- The names of tasks, nodes and ways of grouping.
use Rattle.std.specs.Prelude.{ℕ, suc, Bool, List, [], ◌∷◌, Option, Some, None, codes, take, is_some, option_map, if◌then◌else◌}
use Rattle.std.specs.List.{position_from}
use Rattle.std.specs.Str.{bytes_eq}
use Rattle.std.proofs.Common.{inl, inr}
use Rattle.task_ids.specs.declared.task_id.TaskId.{TaskId}
use Rattle.tasks_api.specs.declared.list.GroupBy.{GroupBy}
use Rattle.tasks_api.specs.declared.list.GroupBy.TheVariants as groups
use Rattle.script_lang.specs.Spelled.{spelled}

-- the id that a text spells, if there is one
abbrev pub task_id_of : List ℕ → Option TaskId
task_id_of text = elim (spelled text) as (λ _. Option TaskId) [ inl found ↦ Some found.0 | inr none ↦ None ]

-- the names of the nodes, in order
abbrev pub node_names : List (List ℕ)
node_names =
    codes "n1" ∷ codes "n2" ∷ codes "n3" ∷ codes "n4" ∷ codes "n5" ∷ codes "n6" ∷ codes "n7" ∷ codes "n8" ∷ codes "n9" ∷ codes "n10" ∷ codes "n11" ∷ codes "n12" ∷ codes "n13" ∷ codes "n14" ∷ codes "n15" ∷ []

-- the place of a name among some, from 0
abbrev pub place_among : List ℕ → List (List ℕ) → Option ℕ
place_among name names = position_from (bytes_eq name) 0 names

abbrev pub is_one_of : List ℕ → List (List ℕ) → Bool
is_one_of name names = is_some (place_among name names)

-- the node that a text names, of so many
unfoldable pub node_of : ℕ → List ℕ → Option ℕ
node_of nodes text = option_map suc (place_among text (take nodes node_names))

-- the way of grouping that a text names
abbrev pub group_named : List ℕ → Option GroupBy
group_named name =
    if bytes_eq name (codes "nodes") then Some groups.Nodes else
    (if bytes_eq name (codes "parents") then Some groups.Parents else
    (if bytes_eq name (codes "none") then Some groups.None else None))
