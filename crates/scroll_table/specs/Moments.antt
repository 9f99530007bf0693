-- Moments as the leaves of a tree: of so many places each node below that number stands above two, and the others are the places.
use Rattle.std.specs.Prelude.{◌≡◌, ℕ, ◌+◌, ◌*◌, ◌<◌, ◌≤◌, List, length, slice_index_or, Bool, false, ◌||◌, nat_le, Option, None, Some}
use Rattle.scroll_table.specs.declared.moments.Moments.{Moments}

-- a moment has come, where there is one
abbrev pub is_due : ℕ → Option ℕ → Bool
is_due now None = false
is_due now (Some moment) = nat_le moment now

abbrev pub node_at : List (Option ℕ) → ℕ → Option ℕ
node_at nodes i = slice_index_or nodes i None

-- the moment of a place
abbrev pub moment_at : Moments → ℕ → Option ℕ
moment_at a place = node_at a.nodes.items (a.places + place)

-- a node is due exactly where one of the two below it is
abbrev pub IsAbove : List (Option ℕ) → ℕ → Type 0
IsAbove nodes i = (now : ℕ) → is_due now (node_at nodes i) ≡ is_due now (node_at nodes (2 * i)) || is_due now (node_at nodes (2 * i + 1))

pub record IsTree (a : Moments) : Type 0 where
  pub sized : length a.nodes.items ≡ 2 * a.places
  pub above : (i : ℕ) → 1 ≤ i → i < a.places → IsAbove a.nodes.items i
