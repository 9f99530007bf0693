-- When the contexts of a node expire.
use Rattle.std.specs.Prelude.{◌≡◌, ℕ, ◌+◌, ◌^◌, ◌<◌, ◌≤◌, length, slice_get, Option, None, Some, option_map, nat_lt, if◌then◌else◌}
use Rattle.std.specs.BTreeMap.{BTreeMap, get}
use Rattle.task_ids.specs.declared.task_id.TaskId.{TaskId}
use Rattle.task_ids.specs.TaskIdOrder.{task_id_cmp}
use Rattle.task_events.specs.declared.context.Context.{Context}
use Rattle.task_events.specs.Contexts.{is_busy}
use Rattle.scroll_table.specs.declared.ends.Ends.{Ends}
use Rattle.scroll_table.specs.Moments.{moment_at, IsTree}

-- the end of a time that began at a moment, where a clock can show it
abbrev pub end_after : ℕ → Option ℕ → Option ℕ
end_after since None = None
end_after since (Some keep) = if nat_lt (since + keep) (2 ^ 64) then Some (since + keep) else None

-- when a context expires, unless it is used before
abbrev pub end_of : Context → Option ℕ
end_of c = if is_busy c then None else end_after c.last_ms c.keep_ms

-- the place of the moment of a task
abbrev pub place_of : Ends → TaskId → Option ℕ
place_of a id = get task_id_cmp a.slots id

-- the moment that is kept of a task, where it has one and the task is there
abbrev pub kept_at : Ends → TaskId → Option (Option ℕ)
kept_at a id = option_map (moment_at a.moments) (place_of a id)

-- each task has a place of its own, these are the first ones, and no other has a moment
pub record AreEnds (a : Ends) : Type 0 where
  pub tree : IsTree a.moments
  pub room : length a.ids.items ≤ a.moments.places
  pub spare : (place : ℕ) → length a.ids.items ≤ place → place < a.moments.places → moment_at a.moments place ≡ None
  pub here : (id : TaskId) (place : ℕ) → place_of a id ≡ Some place → slice_get a.ids.items place ≡ Some id
  pub back : (id : TaskId) (place : ℕ) → slice_get a.ids.items place ≡ Some id → place_of a id ≡ Some place

-- The moments that are kept are the ends of these contexts.
pub record AreEndsOf (a : Ends) (contexts : BTreeMap TaskId Context) : Type 0 where
  pub ends : AreEnds a
  pub each : (id : TaskId) → kept_at a id ≡ option_map end_of (get task_id_cmp contexts id)
