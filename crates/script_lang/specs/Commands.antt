-- The command that a JSON value is, or the first of its causes.
use Rattle.std.specs.Prelude.{ℕ, List, [], ◌∷◌, codes, Bool, true, false, ◌&&◌, ◌||◌, Option, Some, None, is_some, option_and_then, Result, Ok, Err, if◌then◌else◌}
use Rattle.std.specs.Option.{ok_or}
use Rattle.serde_json.specs.Data.{Data, Members, no_members, member}
use Rattle.serde_json.specs.Find.{get_member, as_object}
use Rattle.task_ids.specs.declared.cause.Cause.{Cause}
use Rattle.task_ids.specs.declared.cause.Cause.TheVariants.{NotObject, ScheduleLineInRun}
use Rattle.shard_docs.specs.Fault.{◌>>=◌}
use Rattle.script_lang.specs.declared.command.Command.{Command}
use Rattle.script_lang.specs.declared.command.Command.TheVariants.{Search, Scroll, ClearScroll, Reindex, Cancel, ListTasks, GetTask, ForgetTask, ListResults, Tick, Deliver, Step, ListStep, Settle, Shuffle, WaitFor, History, Summary}
use Rattle.script_lang.specs.declared.command.Mode.{Mode}
use Rattle.script_lang.specs.declared.command.Mode.TheVariants.{Sim, Run}
use Rattle.script_lang.specs.declared.kind.Kind.{Kind}
use Rattle.script_lang.specs.declared.kind.Kind.TheVariants as kinds
use Rattle.script_lang.specs.Fields.{both, fields_of, text_of, text_or, optional_text, node_in, node_or_first, task_in, group_or_nodes, flag_or_false, body_in, object_in, number_in, slices_or_one, rate_or_none, optional_keep_alive, time_in, truth_in, needed_number, moves_in}
use Rattle.script_lang.specs.Filters.{filter_in}
use Rattle.script_lang.specs.Kinds.{kind_named, is_schedule}
use Rattle.script_lang.specs.Targets.{target_in, context_in, one_task_in, awaited_in}

-- ---- the fields of the commands

abbrev pub search_fields : List (List ℕ)
search_fields = codes "index" ∷ codes "node" ∷ codes "scroll" ∷ codes "body" ∷ codes "opaque_id" ∷ []

abbrev pub scroll_fields : List (List ℕ)
scroll_fields = codes "scroll_id" ∷ codes "command" ∷ codes "scroll" ∷ codes "opaque_id" ∷ []

abbrev pub clear_fields : List (List ℕ)
clear_fields = codes "scroll_id" ∷ codes "command" ∷ []

abbrev pub reindex_fields : List (List ℕ)
reindex_fields = codes "body" ∷ codes "node" ∷ codes "slices" ∷ codes "requests_per_second" ∷ codes "opaque_id" ∷ codes "store" ∷ []

abbrev pub cancel_fields : List (List ℕ)
cancel_fields = codes "task_id" ∷ codes "command" ∷ codes "reason" ∷ codes "wait_for_completion" ∷ codes "actions" ∷ codes "nodes" ∷ codes "parent_task_id" ∷ []

abbrev pub list_fields : List (List ℕ)
list_fields = codes "group_by" ∷ codes "actions" ∷ codes "nodes" ∷ codes "parent_task_id" ∷ codes "detailed" ∷ []

abbrev pub get_fields : List (List ℕ)
get_fields = codes "task_id" ∷ codes "command" ∷ codes "wait_for_completion" ∷ []

abbrev pub forget_fields : List (List ℕ)
forget_fields = codes "task_id" ∷ codes "command" ∷ []

abbrev pub no_fields : List (List ℕ)
no_fields = []

abbrev pub list_step_fields : List (List ℕ)
list_step_fields = codes "node" ∷ codes "parent" ∷ []

abbrev pub shuffle_fields : List (List ℕ)
shuffle_fields = codes "seed" ∷ codes "moves" ∷ []

abbrev pub wait_fields : List (List ℕ)
wait_fields = codes "command" ∷ []

-- ---- the commands

-- a search on a cluster of so many nodes
unfoldable pub search_in : ℕ → Data → Result Command Cause
search_in nodes value = do
  fields ← fields_of search_fields value
  found ← both (text_of (get_member (codes "index") fields)) (both (node_or_first nodes (get_member (codes "node") fields)) (both (optional_keep_alive (get_member (codes "scroll") fields)) (both (body_in (get_member (codes "body") fields)) (optional_text (get_member (codes "opaque_id") fields)))))
  Ok (Search found.0 found.1.0 found.1.1.0 found.1.1.1.0 found.1.1.1.1)

-- a scroll after some commands
unfoldable pub scroll_in : List Command → Data → Result Command Cause
scroll_in before value = do
  fields ← fields_of scroll_fields value
  found ← both (context_in before fields) (both (optional_keep_alive (get_member (codes "scroll") fields)) (optional_text (get_member (codes "opaque_id") fields)))
  Ok (Scroll found.0 found.1.0 found.1.1)

-- a clear after some commands
unfoldable pub clear_in : List Command → Data → Result Command Cause
clear_in before value = do
  fields ← fields_of clear_fields value
  context ← context_in before fields
  Ok (ClearScroll context)

-- a reindex on a cluster of so many nodes
unfoldable pub reindex_in : ℕ → Data → Result Command Cause
reindex_in nodes value = do
  fields ← fields_of reindex_fields value
  found ← both (node_or_first nodes (get_member (codes "node") fields)) (both (object_in (get_member (codes "body") fields)) (both (slices_or_one (get_member (codes "slices") fields)) (both (rate_or_none (get_member (codes "requests_per_second") fields)) (both (optional_text (get_member (codes "opaque_id") fields)) (flag_or_false (get_member (codes "store") fields))))))
  Ok (Reindex found.0 found.1.0 found.1.1.0 found.1.1.1.0 found.1.1.1.1.0 found.1.1.1.1.1)

-- a cancel after some commands
unfoldable pub cancel_in : List Command → Data → Result Command Cause
cancel_in before value = do
  fields ← fields_of cancel_fields value
  found ← both (target_in before fields) (both (text_or (codes "by user request") (get_member (codes "reason") fields)) (flag_or_false (get_member (codes "wait_for_completion") fields)))
  Ok (Cancel found.0 found.1.0 found.1.1)

-- a list of tasks
unfoldable pub list_in : Data → Result Command Cause
list_in value = do
  fields ← fields_of list_fields value
  found ← both (filter_in fields) (both (group_or_nodes (get_member (codes "group_by") fields)) (flag_or_false (get_member (codes "detailed") fields)))
  Ok (ListTasks found.0 found.1.0 found.1.1)

-- a get of a task after some commands
unfoldable pub get_in : List Command → Data → Result Command Cause
get_in before value = do
  fields ← fields_of get_fields value
  found ← both (one_task_in before fields) (flag_or_false (get_member (codes "wait_for_completion") fields))
  Ok (GetTask found.0 found.1)

-- a forget after some commands
unfoldable pub forget_in : List Command → Data → Result Command Cause
forget_in before value = do
  fields ← fields_of forget_fields value
  task ← one_task_in before fields
  Ok (ForgetTask task)

-- a list of results, which says nothing
unfoldable pub results_in : Data → Result Command Cause
results_in value = do
  fields ← fields_of no_fields value
  Ok ListResults

-- a step of a listing on a cluster of so many nodes
unfoldable pub list_step_in : ℕ → Data → Result Command Cause
list_step_in nodes value = do
  fields ← fields_of list_step_fields value
  found ← both (node_in nodes (get_member (codes "node") fields)) (task_in (get_member (codes "parent") fields))
  Ok (ListStep found.0 found.1)

-- moves that look like chance
unfoldable pub shuffle_in : Data → Result Command Cause
shuffle_in value = do
  fields ← fields_of shuffle_fields value
  found ← both (needed_number (get_member (codes "seed") fields)) (moves_in (get_member (codes "moves") fields))
  Ok (Shuffle found.0 found.1)

-- a command that waits for one of some commands
unfoldable pub wait_in : List Command → Data → Result Command Cause
wait_in before value = do
  fields ← fields_of wait_fields value
  command ← awaited_in before (get_member (codes "command") fields)
  Ok (WaitFor command)

-- the command of a kind, from what stands at its key, after other commands
abbrev pub command_of_kind : ℕ → List Command → Kind → Data → Result Command Cause
command_of_kind nodes before kinds.Search value = search_in nodes value
command_of_kind nodes before kinds.Scroll value = scroll_in before value
command_of_kind nodes before kinds.ClearScroll value = clear_in before value
command_of_kind nodes before kinds.Reindex value = reindex_in nodes value
command_of_kind nodes before kinds.Cancel value = cancel_in before value
command_of_kind nodes before kinds.ListTasks value = list_in value
command_of_kind nodes before kinds.GetTask value = get_in before value
command_of_kind nodes before kinds.ForgetTask value = forget_in before value
command_of_kind nodes before kinds.ListResults value = results_in value
command_of_kind nodes before kinds.Tick value = time_in value >>= λ ms. Ok (Tick ms)
command_of_kind nodes before kinds.Deliver value = number_in value >>= λ nth. Ok (Deliver nth)
command_of_kind nodes before kinds.Step value = task_in (Some value) >>= λ task. Ok (Step task)
command_of_kind nodes before kinds.ListStep value = list_step_in nodes value
command_of_kind nodes before kinds.Settle value = truth_in value >>= λ _. Ok Settle
command_of_kind nodes before kinds.Shuffle value = shuffle_in value
command_of_kind nodes before kinds.WaitFor value = wait_in before value
command_of_kind nodes before kinds.History value = truth_in value >>= λ _. Ok History
command_of_kind nodes before kinds.Summary value = truth_in value >>= λ _. Ok Summary

-- ---- the line of a command

abbrev pub only_entry : Members → Option (List ℕ × Data)
only_entry no_members = None
only_entry (member name value no_members) = Some (name, value)
only_entry (member name value (member other more fields)) = None

-- the key and the value of an object with one key
abbrev pub only_member : Data → Option (List ℕ × Data)
only_member value = option_and_then only_entry (as_object value)

abbrev pub is_run : Mode → Bool
is_run Sim = false
is_run Run = true

-- a reindex says whether its reply is stored, whatever it says
abbrev pub has_store : Kind → Data → Bool
has_store kinds.Reindex value = is_some (option_and_then (get_member (codes "store")) (as_object value))
has_store _ value = false

-- it is no line for threads, which neither take a schedule nor store results
abbrev pub is_for_sim : Kind → Data → Bool
is_for_sim kind value = is_schedule kind || has_store kind value

-- the command that a JSON value is, after other commands, on a cluster of so many nodes
unfoldable pub command_in : Mode → ℕ → List Command → Data → Result Command Cause
command_in mode nodes before value = do
  entry ← ok_or (only_member value) NotObject
  kind ← kind_named entry.0
  if is_run mode && is_for_sim kind entry.1 then Err ScheduleLineInRun else command_of_kind nodes before kind entry.1
