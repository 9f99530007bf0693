-- The list of the tasks that a filter shows, after Elasticsearch's task management API.
use Rattle.std.specs.Prelude.{ℕ, suc, zero, ◌-◌, ◌*◌, ◌==◌, Bool, true, false, not, if◌then◌else◌, List, [], ◌∷◌, ◌++◌, length, map, filter, fold, Option, Some, None, is_some, codes}
use Rattle.std.specs.List.{list_any, range_with_len, IsDistinct}
use Rattle.serde_json.specs.Data.{Data, number, unsigned, boolean, string, array, object, Members, no_members, put}
use Rattle.serde_json.specs.View.{items_of}
use Rattle.serde_json.specs.Written.{compact_text}
use Rattle.task_ids.specs.Action.{action_text}
use Rattle.task_ids.specs.TaskId.{task_id_text, node_name}
use Rattle.task_ids.specs.declared.task_id.TaskId.{TaskId}
use Rattle.task_ids.specs.declared.task_info.TaskInfo.{TaskInfo}
use Rattle.tasks_api.specs.declared.filter.Filter.{Filter}
use Rattle.tasks_api.specs.declared.list.GroupBy.{GroupBy}
use Rattle.tasks_api.specs.declared.list.GroupBy.TheVariants as groups
use Rattle.tasks_api.specs.Filters.{filter_matches, is_task, is_child_of}
use Rattle.tasks_api.specs.Objects.{object_by, object_with}

-- ---- one task

-- the tasks below it, where there are any
abbrev pub children_part : List Data → List (List ℕ × Data)
children_part [] = []
children_part (child ∷ children) = (codes "children", array (items_of (child ∷ children))) ∷ []

-- what it works on, where the list is detailed
abbrev pub description_part : Bool → List ℕ → List (List ℕ × Data)
description_part false description = []
description_part true description = (codes "description", string description) ∷ []

-- what its request carried
abbrev pub headers_part : Option (List ℕ) → List (List ℕ × Data)
headers_part None = []
headers_part (Some opaque_id) = (codes "X-Opaque-Id", string opaque_id) ∷ []

-- the task that asked for it, where one did
abbrev pub parent_part : Option TaskId → List (List ℕ × Data)
parent_part None = []
parent_part (Some parent) = (codes "parent_task_id", string (task_id_text parent)) ∷ []

-- how its request came: directly where its parent is on its own node
abbrev pub way : ℕ → Option TaskId → List ℕ
way node None = codes "transport"
way node (Some parent) = if parent.node == node then codes "direct" else codes "transport"

-- what it does, and whether it is cancelled
abbrev pub state_part : TaskInfo → List (List ℕ × Data)
state_part row = (codes "action", string (action_text row.action)) ∷ (codes "cancellable", boolean true) ∷ (codes "cancelled", boolean (is_some row.cancelled)) ∷ []

-- what its request carried, and where it runs
abbrev pub place_part : TaskInfo → List (List ℕ × Data)
place_part row = (codes "headers", object_with (headers_part row.headers.opaque_id)) ∷ (codes "id", number (unsigned row.id.number)) ∷ (codes "node", string (node_name row.id.node)) ∷ []

-- how long it has run at a moment, when it started, and how its request came
abbrev pub start_part : ℕ → TaskInfo → List (List ℕ × Data)
start_part now row =
    (codes "running_time_in_nanos", number (unsigned ((now - row.start_ms) * 1000000))) ∷ (codes "start_time_in_millis", number (unsigned row.start_ms)) ∷ (codes "type", string (way row.id.node row.parent)) ∷ []

-- a task as a list shows it, detailed or not and at a moment, with these tasks below it
abbrev pub task_json : Bool → ℕ → List Data → TaskInfo → Data
task_json detailed now children row =
    object_with (state_part row ++ children_part children ++ description_part detailed row.description ++ place_part row ++ parent_part row.parent ++ start_part now row)

-- ---- grouped tasks

-- an object of tasks, each at its id
abbrev pub by_id : (TaskInfo → Data) → List TaskInfo → Data
by_id look rows = object_by (λ row. task_id_text row.id) look rows

abbrev pub on_node : ℕ → List TaskInfo → List TaskInfo
on_node node rows = filter (λ row. node == row.id.node) rows

-- a node with these tasks of its own
abbrev pub node_json : (TaskInfo → Data) → ℕ → List TaskInfo → Data
node_json look node rows = object_with ((codes "name", string (node_name node)) ∷ (codes "tasks", by_id look rows) ∷ [])

-- the members with a node at its name, where it has a task
abbrev pub with_node : (TaskInfo → Data) → ℕ → List TaskInfo → Members → Members
with_node look node [] members = members
with_node look node (row ∷ rows) members = put (node_name node) (node_json look node (row ∷ rows)) members

-- the nodes, from 1 to 15, that have one of the tasks
abbrev pub nodes_json : (TaskInfo → Data) → List TaskInfo → Data
nodes_json look rows = object (fold (λ members node. with_node look node (on_node node rows) members) no_members (range_with_len 1 15))

abbrev pub children_of : List TaskInfo → TaskId → List TaskInfo
children_of rows t = filter (λ row. is_child_of t row.parent) rows

-- A task with the tasks below it, and those below them, down to so many levels: `look` shows one task over what stands below it.
abbrev pub tree_json : (List Data → TaskInfo → Data) → (TaskId → List TaskInfo) → ℕ → TaskInfo → Data
tree_json look below zero row = look [] row
tree_json look below (suc levels) row = look (map (λ child. tree_json look below levels child) (below row.id)) row

-- the parent of a task is not among these
abbrev pub is_top : List TaskInfo → TaskInfo → Bool
is_top rows row = not (list_any (λ other. is_child_of other.id row.parent) rows)

-- the tasks at the top, with so many levels below them
abbrev pub parents_json : ℕ → (List Data → TaskInfo → Data) → List TaskInfo → Data
parents_json levels look rows = by_id (λ row. tree_json look (children_of rows) levels row) (filter (λ row. is_top rows row) rows)

-- The tasks that are shown, by their nodes, by their parents, or plainly. By parents a task stands below its parent where that is shown,
-- and else at the top. As many levels as there are tasks show all of them.
abbrev pub list_json : GroupBy → (List Data → TaskInfo → Data) → List TaskInfo → Data
list_json groups.Nodes look rows = object_with ((codes "nodes", nodes_json (look []) rows) ∷ [])
list_json groups.Parents look rows = object_with ((codes "tasks", parents_json (length rows) look rows) ∷ [])
list_json groups.None look rows = object_with ((codes "tasks", array (items_of (map (look []) rows))) ∷ [])

-- each id stands once among the tasks
abbrev pub HasEachOnce : List TaskInfo → Type 0
HasEachOnce rows = IsDistinct is_task (map (λ row. row.id) rows)

-- the tasks that a filter shows, in their order
abbrev pub shown : Filter → List TaskInfo → List TaskInfo
shown wanted rows = filter (λ row. filter_matches wanted row) rows

-- One task as a detailed list shows it that shows no task below another.
abbrev pub task_text : ℕ → TaskInfo → List ℕ
task_text now row = compact_text (task_json true now [] row)

-- The reply to a list of the tasks that a filter shows.
abbrev pub list_text : GroupBy → Bool → ℕ → Filter → List TaskInfo → List ℕ
list_text group detailed now wanted rows = compact_text (list_json group (task_json detailed now) (shown wanted rows))
