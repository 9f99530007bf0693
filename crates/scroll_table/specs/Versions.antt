-- Which versions of shards the contexts of a node keep.
use Rattle.std.specs.Prelude.{◌≡◌, ℕ, ◌==◌, List, Bool, false, ◌&&◌, Option, None, Some}
use Rattle.std.specs.Ordering.{nat_cmp, ordering_then}
use Rattle.std.specs.declared.cmp.Ordering.{Ordering}
use Rattle.std.specs.BTreeMap.{BTreeMap, get, is_at}
use Rattle.std.specs.BTreeSet.{BTreeSet, contains}
use Rattle.std.specs.HashMap.{get_by_text}
use Rattle.std.specs.Str.{bytes_eq}
use Rattle.task_ids.specs.declared.task_id.TaskId.{TaskId}
use Rattle.task_ids.specs.TaskIdOrder.{task_id_cmp}
use Rattle.task_events.specs.declared.context.Context.{Context}
use Rattle.task_events.specs.Contexts.{version_kept}
use Rattle.scroll_table.specs.declared.versions.Kept.{Kept}
use Rattle.scroll_table.specs.declared.versions.Versions.{Versions}

-- by shard, then by version, and then by context
abbrev pub kept_cmp : Kept → Kept → Ordering
kept_cmp a b = ordering_then (nat_cmp a.shard b.shard) (ordering_then (nat_cmp a.version b.version) (task_id_cmp a.id b.id))

-- it is among those of an index, where there are any
abbrev pub has_kept : Option (BTreeSet Kept) → Kept → Bool
has_kept None k = false
has_kept (Some rows) k = contains kept_cmp rows k

-- it is noted of this index
abbrev pub keeps : Versions → List ℕ → Kept → Bool
keeps a index k = has_kept (get_by_text a.by_index index) k

-- an index and what is kept of it are these
abbrev pub is_row : List ℕ → Kept → List ℕ → Kept → Bool
is_row index kept i k = bytes_eq index i && is_at (kept_cmp kept) k

abbrev pub is_version : ℕ → Option ℕ → Bool
is_version version None = false
is_version version (Some other) = other == version

-- a context is there, and it keeps this version of this shard of an index
abbrev pub is_kept : List ℕ → Kept → Option Context → Bool
is_kept index k None = false
is_kept index k (Some c) = is_version k.version (version_kept index k.shard c)

-- the context of an id keeps it
abbrev pub is_kept_by : TaskId → Context → List ℕ → Kept → Bool
is_kept_by id c index k = is_at (task_id_cmp id) k.id && is_kept index k (Some c)

-- The versions that are noted are those that these contexts keep.
abbrev pub AreVersionsOf : Versions → BTreeMap TaskId Context → Type 0
AreVersionsOf a contexts = (index : List ℕ) (k : Kept) → keeps a index k ≡ is_kept index k (get task_id_cmp contexts k.id)
