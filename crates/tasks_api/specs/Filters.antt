-- Which tasks a filter lets through.
use Rattle.std.specs.Prelude.{ℕ, Bool, true, false, ◌&&◌, ◌==◌, List, [], ◌∷◌, Option, Some, None}
use Rattle.std.specs.List.{list_any, slice_split}
use Rattle.task_ids.specs.Action.{action_text}
use Rattle.task_ids.specs.Pattern.{matches_pattern}
use Rattle.task_ids.specs.TaskId.{node_name}
use Rattle.task_ids.specs.declared.task_id.TaskId.{TaskId}
use Rattle.task_ids.specs.declared.task_info.TaskInfo.{TaskInfo}
use Rattle.tasks_api.specs.declared.filter.Filter.{Filter}

-- The patterns that a text lists: what stands between its commas. No text lists none, and an empty text lists the empty pattern.
abbrev pub patterns_in : Option (List ℕ) → List (List ℕ)
patterns_in None = []
patterns_in (Some text) = slice_split (λ byte. byte == 44) text

-- one of the patterns matches the text, or there is no pattern
abbrev pub is_let_through : List (List ℕ) → List ℕ → Bool
is_let_through [] text = true
is_let_through (pattern ∷ patterns) text = list_any (λ p. matches_pattern p text) (pattern ∷ patterns)

-- the two are one id
abbrev pub is_task : TaskId → TaskId → Bool
is_task t u = (t.node == u.node) && (t.number == u.number)

-- a task with this parent, or with none, is a child of t
abbrev pub is_child_of : TaskId → Option TaskId → Bool
is_child_of t None = false
is_child_of t (Some parent) = is_task parent t

-- a filter for the children of a task wants that parent; one for none wants nothing of it
abbrev pub has_wanted_parent : Option TaskId → Option TaskId → Bool
has_wanted_parent None parent = true
has_wanted_parent (Some wanted) parent = is_child_of wanted parent

-- A pattern for actions, if there is any, matches the task's action, one for nodes the name of its node, and its parent is the one that is wanted.
abbrev pub filter_matches : Filter → TaskInfo → Bool
filter_matches filter row =
    is_let_through filter.actions (action_text row.action) && (is_let_through filter.nodes (node_name row.id.node) && has_wanted_parent filter.parent row.parent)
