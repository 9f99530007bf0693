-- What an action line asks for, after the bulk API.
use Rattle.std.specs.Prelude.{ℕ, List, ◌++◌, length, codes, Bool, false, ◌==◌, if◌then◌else◌, Option, Some, None, Result, Ok, Err, option_and_then, decimal}
use Rattle.std.specs.Option.{ok_or, option_map_or}
use Rattle.serde_json.specs.Data.{Data, string, number}
use Rattle.serde_json.specs.Events.{members_len}
use Rattle.serde_json.specs.Find.{as_object, as_str, get}
use Rattle.serde_json.specs.Written.{number_text}
use Rattle.task_ids.specs.declared.cause.Cause.{Cause}
use Rattle.task_ids.specs.declared.cause.Cause.TheVariants.{UnknownAction, BadAction}
use Rattle.shard_docs.specs.declared.action.BulkAction.{BulkAction}
use Rattle.shard_docs.specs.declared.action.BulkKind.{BulkKind}
use Rattle.shard_docs.specs.declared.action.BulkKind.TheVariants.{Index, Create}
use Rattle.shard_docs.specs.Fault.{◌>>=◌}
use Rattle.shard_docs.specs.Json.{whole_json_of}

-- an object of one key
abbrev pub has_one_key : Data → Bool
has_one_key value = option_map_or (λ ms. members_len ms == 1) (as_object value) false

-- what is found at `index`, or else at `create`
abbrev pub chosen : Option Data → Option Data → Result (BulkKind × Data) Cause
chosen (Some target) _ = Ok (Index, target)
chosen None (Some target) = Ok (Create, target)
chosen None None = Err UnknownAction

-- the kind of an action and what it is about: an object of one key, which is `index` or `create`
abbrev pub kind_of : Data → Result (BulkKind × Data) Cause
kind_of value = if has_one_key value then chosen (get (codes "index") value) (get (codes "create") value) else Err BadAction

-- a text that is not empty
abbrev pub nonempty : List ℕ → Option (List ℕ)
nonempty text = if length text == 0 then None else Some text

-- the index that an action is about, a text that is not empty
abbrev pub index_of : Data → Option (List ℕ)
index_of target = option_and_then nonempty (option_and_then as_str (get (codes "_index") target))

-- an id that is written: a text that is not empty, or a whole number, which stands for its decimal text
abbrev pub written_id : Data → Option (List ℕ)
written_id (string id) = nonempty id
written_id (number id) = Some (number_text id)
written_id _ = None

-- the id, or `auto-` and the number of the action's line where none is written
abbrev pub id_or_auto : ℕ → Option Data → Option (List ℕ)
id_or_auto line None = Some (codes "auto-" ++ decimal line)
id_or_auto line (Some id) = written_id id

-- what an action is about; other fields are passed over
abbrev pub target_of : ℕ → BulkKind → Data → Result BulkAction Cause
target_of line kind target = do
  index ← ok_or (index_of target) BadAction
  id ← ok_or (id_or_auto line (get (codes "_id") target)) BadAction
  Ok (record { kind = kind; index = index; id = id })

-- the action of a value on a line that has this number
unfoldable pub action_of_value : ℕ → Data → Result BulkAction Cause
action_of_value at value = do
  choice ← kind_of value
  target_of at choice.0 choice.1

-- the action of a line, which has this number
unfoldable pub action_of : ℕ → List ℕ → Result BulkAction Cause
action_of at line = do
  value ← whole_json_of line
  action_of_value at value
