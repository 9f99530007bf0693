-- What contracts see of a control worker's core.
use Rattle.std.specs.Prelude.{◌≡◌, ℕ, Bool, false, not, ◌||◌, ◌&&◌, ◌==◌, List, [], is_some, length}
use Rattle.std.specs.List.{list_any}
use Rattle.std.specs.BTreeMap.{BTreeMap}
use Rattle.std.specs.FinMap.{FinMap, empty, get, from_entries}
use Rattle.std.specs.Ordering.{nat_cmp}
use Rattle.task_ids.specs.declared.task_id.TaskId.{TaskId}
use Rattle.task_ids.specs.TaskIdOrder.{task_id_cmp}
use Rattle.cancel_core.specs.Cancellations.{Cancellations, no_cancellations, has_entry, entry_of}
use Rattle.cancel_core.specs.Fields.{map_of}
use Rattle.cancel_core.specs.Listings.{has_listing}
use Rattle.data_pool.specs.Gathered.{Gathered}
use Rattle.control_worker.specs.declared.control_core.Ban.{Ban}
use Rattle.control_worker.specs.declared.control_core.ControlCore.{ControlCore}

-- its node; the cancellations of the node's tasks; for each parent whose ban the board has, its cancel; the bans that are kept back, oldest first; how many tasks were marked; for how many tasks the board has room; how many data workers the node has; and what they told of each cancel by a filter of which a part is missing
pub record View : Type 0 where
  pub node : ℕ
  pub cancels : Cancellations
  pub bans : FinMap task_id_cmp ℕ
  pub kept : List Ban
  pub marks : ℕ
  pub slots : ℕ
  pub workers : ℕ
  pub gathers : FinMap nat_cmp Gathered

-- what a tree of cancels has at each of them
abbrev pub gathers_of : BTreeMap ℕ Gathered → FinMap nat_cmp Gathered
gathers_of tree = from_entries tree.entries

abbrev pub view_of : ControlCore → View
view_of c = record { node = c.node; cancels = c.cancels; bans = map_of c.bans; kept = c.kept.items; marks = c.marks; slots = length c.found.items; workers = c.workers; gathers = gathers_of c.gathers }

-- a core that has done nothing
abbrev pub new_view : ℕ → ℕ → ℕ → View
new_view node workers slots = record { node = node; cancels = no_cancellations node; bans = empty; kept = []; marks = 0; slots = slots; workers = workers; gathers = empty }

-- the letter is for this node, and the task is one of this node
abbrev pub is_to : ℕ → View → Bool
is_to node v = node == v.node

abbrev pub is_here : TaskId → View → Bool
is_here task v = task.node == v.node

-- a cancellation of the task is under way
abbrev pub is_under_way : TaskId → View → Bool
is_under_way task v = has_entry v.cancels task

-- and the task has not ended
abbrev pub is_open : TaskId → View → Bool
is_open task v = has_entry v.cancels task && not (is_some (entry_of v.cancels task).receipt)

-- a part is missing of the matches for the cancel
abbrev pub is_gathering : ℕ → View → Bool
is_gathering cancel v = is_some (get v.gathers cancel)

-- no cancellation is under way, and no part is missing of the matches of a filter
pub record IsIdle (v : View) : Type 0 where
  pub cancels : (task : TaskId) → is_under_way task v ≡ false
  pub gathers : (cancel : ℕ) → is_gathering cancel v ≡ false

-- the board has a ban of the parent
abbrev pub has_ban : View → TaskId → Bool
has_ban v parent = is_some (get v.bans parent)

-- the board has a ban of the parent, or a listing of its children waits
abbrev pub is_banned : TaskId → View → Bool
is_banned parent v = has_ban v parent || has_listing v.cancels parent

abbrev pub is_of : TaskId → Ban → Bool
is_of parent ban = (ban.parent.node == parent.node) && (ban.parent.number == parent.number)

-- a ban of the parent is kept back
abbrev pub is_kept_back : TaskId → View → Bool
is_kept_back parent v = list_any (is_of parent) v.kept
