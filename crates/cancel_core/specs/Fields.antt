-- A core as its fields have it.
use Rattle.std.specs.Prelude.{ℕ}
use Rattle.std.specs.BTreeMap.{BTreeMap}
use Rattle.std.specs.FinMap.{FinMap, from_entries}
use Rattle.task_ids.specs.declared.task_id.TaskId.{TaskId}
use Rattle.task_ids.specs.TaskIdOrder.{task_id_cmp}
use Rattle.cancel_core.specs.declared.listings.Listings.{Listings}
use Rattle.cancel_core.specs.Cancellation.{Cancellation}
use Rattle.cancel_core.specs.Cancellations.{Cancellations}

-- what a tree of tasks has at each of them
abbrev pub map_of : {X : Type 0} → BTreeMap TaskId X → FinMap task_id_cmp X
map_of tree = from_entries tree.entries

abbrev pub core_with : ℕ → FinMap task_id_cmp Cancellation → Listings → Cancellations
core_with node entries listings = record { node = node; entries = entries; waits = map_of listings.waits; listings = map_of listings.numbers }
