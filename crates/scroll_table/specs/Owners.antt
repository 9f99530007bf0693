-- Which contexts of a node belong to an owner.
use Rattle.std.specs.Prelude.{◌≡◌, ℕ, ◌+◌, ◌*◌, ◌^◌, Bool, false, ◌&&◌, Option, None, Some}
use Rattle.std.specs.Ordering.{ordering_then}
use Rattle.std.specs.declared.cmp.Ordering.{Ordering}
use Rattle.std.specs.BTreeMap.{BTreeMap, get, is_at}
use Rattle.std.specs.BTreeSet.{contains}
use Rattle.task_ids.specs.declared.task_id.TaskId.{TaskId}
use Rattle.task_ids.specs.TaskIdOrder.{task_id_cmp}
use Rattle.task_events.specs.declared.context.Context.{Context}
use Rattle.task_events.specs.Contexts.{is_owned_by}
use Rattle.scroll_table.specs.declared.owners.Owned.{Owned}
use Rattle.scroll_table.specs.declared.owners.Owners.{Owners}

-- by owner, and then by context
abbrev pub owned_cmp : Owned → Owned → Ordering
owned_cmp a b = ordering_then (task_id_cmp a.owner b.owner) (task_id_cmp a.id b.id)

-- this context is kept as one of this owner
abbrev pub owns : Owners → TaskId → TaskId → Bool
owns a owner id = contains owned_cmp a.pairs (record { owner = owner; id = id })

-- an owner, where there is one, and a context are these
abbrev pub is_pair : Option TaskId → TaskId → TaskId → TaskId → Bool
is_pair None id o q = false
is_pair (Some owner) id o q = is_at (task_id_cmp owner) o && is_at (task_id_cmp id) q

-- a context is there, and it belongs to this owner
abbrev pub is_of : TaskId → Option Context → Bool
is_of owner None = false
is_of owner (Some c) = is_owned_by (Some owner) c

-- The owners are those of these contexts.
abbrev pub AreOwnersOf : Owners → BTreeMap TaskId Context → Type 0
AreOwnersOf a contexts = (owner id : TaskId) → owns a owner id ≡ is_of owner (get task_id_cmp contexts id)

-- where an id stands in the order of all ids
abbrev pub rank : TaskId → ℕ
rank id = id.node * 2 ^ 20 + id.number

abbrev pub rank_after : Option TaskId → ℕ
rank_after None = 0
rank_after (Some id) = rank id
