-- The fields of a command: each is read for itself, and the earliest of the causes counts, wherever it stands in the line.
use Rattle.std.specs.Prelude.{ℕ, ℤ, pos, negsuc, zero, suc, List, Bool, true, false, ◌&&◌, Option, Some, None, option_and_then, is_some, Result, Ok, Err, nat_lt, nat_le, if◌then◌else◌}
use Rattle.std.specs.Option.{ok_or}
use Rattle.serde_json.specs.Data.{Data, object, Members, no_members, member}
use Rattle.serde_json.specs.Find.{as_object, as_str, as_bool, as_number, as_u64, as_i64}
use Rattle.task_ids.specs.declared.cause.Cause.{Cause}
use Rattle.task_ids.specs.declared.cause.Cause.TheVariants.{TooLong, TooManyLines, LineTooLong, NoSource, BadUtf8, BadJson, NotWhole, NotObject, UnknownAction, BadAction, Conflict, UnknownCommand, ScheduleLineInRun, UnknownField, BadField, BadTaskId, UnknownNode, BadReference, NotWaitable}
use Rattle.task_ids.specs.declared.task_id.TaskId.{TaskId}
use Rattle.shard_docs.specs.Fault.{◌>>=◌}
use Rattle.tasks_api.specs.declared.list.GroupBy.{GroupBy}
use Rattle.tasks_api.specs.declared.list.GroupBy.TheVariants.{Nodes}
use Rattle.script_lang.specs.KeepAlives.{keep_alive_of, day_ms}
use Rattle.script_lang.specs.Names.{task_id_of, is_one_of, node_of, group_named}

-- ---- which cause counts

-- where a cause stands in the order in which the causes of one line count
abbrev pub place_of : Cause → ℕ
place_of TooLong = 0
place_of TooManyLines = 1
place_of LineTooLong = 2
place_of NoSource = 3
place_of BadUtf8 = 4
place_of BadJson = 5
place_of NotWhole = 6
place_of NotObject = 7
place_of UnknownAction = 8
place_of BadAction = 9
place_of Conflict = 10
place_of UnknownCommand = 11
place_of ScheduleLineInRun = 12
place_of UnknownField = 13
place_of BadField = 14
place_of BadTaskId = 15
place_of UnknownNode = 16
place_of BadReference = 17
place_of NotWaitable = 18

abbrev pub earlier : Cause → Cause → Cause
earlier a b = if nat_lt (place_of b) (place_of a) then b else a

-- two fields, or the earlier of their causes
abbrev pub both : {A B : Type 0} → Result A Cause → Result B Cause → Result (A × B) Cause
both (Ok x) (Ok y) = Ok (x, y)
both (Ok x) (Err b) = Err b
both (Err a) (Ok y) = Err a
both (Err a) (Err b) = Err (earlier a b)

-- a field as contracts see it
abbrev pub seen : {X Y : Type 0} → (X → Y) → Result X Cause → Result Y Cause
seen view (Ok x) = Ok (view x)
seen view (Err cause) = Err cause

abbrev pub expects : Bool → Cause → Result (Unit {0}) Cause
expects true cause = Ok tt
expects false cause = Err cause

-- ---- the names of fields

-- each field is among these
abbrev pub are_among : List (List ℕ) → Members → Bool
are_among names no_members = true
are_among names (member name value fields) = if is_one_of name names then are_among names fields else false

-- the fields of a command, which are among those that there are
unfoldable pub fields_of : List (List ℕ) → Data → Result Members Cause
fields_of known value = do
  fields ← ok_or (as_object value) BadField
  _ ← expects (are_among known fields) UnknownField
  Ok fields

-- ---- the kinds of fields, each of what stands at its key, if it is there

abbrev pub text_of : Option Data → Result (List ℕ) Cause
text_of field = ok_or (option_and_then as_str field) BadField

abbrev pub text_or : List ℕ → Option Data → Result (List ℕ) Cause
text_or default None = Ok default
text_or default (Some value) = text_of (Some value)

abbrev pub optional_text : Option Data → Result (Option (List ℕ)) Cause
optional_text None = Ok None
optional_text (Some value) = text_of (Some value) >>= λ text. Ok (Some text)

-- the name of a node, of so many
unfoldable pub node_in : ℕ → Option Data → Result ℕ Cause
node_in nodes field = do
  name ← text_of field
  ok_or (node_of nodes name) UnknownNode

abbrev pub node_or_first : ℕ → Option Data → Result ℕ Cause
node_or_first nodes None = Ok 1
node_or_first nodes (Some value) = node_in nodes (Some value)

-- a task id
unfoldable pub task_in : Option Data → Result TaskId Cause
task_in field = do
  text ← text_of field
  ok_or (task_id_of text) BadTaskId

abbrev pub optional_task : Option Data → Result (Option TaskId) Cause
optional_task None = Ok None
optional_task (Some value) = task_in (Some value) >>= λ task. Ok (Some task)

-- how a list is grouped
abbrev pub group_or_nodes : Option Data → Result GroupBy Cause
group_or_nodes None = Ok Nodes
group_or_nodes (Some value) = text_of (Some value) >>= λ name. ok_or (group_named name) BadField

abbrev pub flag_or_false : Option Data → Result Bool Cause
flag_or_false None = Ok false
flag_or_false (Some value) = ok_or (as_bool value) BadField

abbrev pub body_or_empty : Option Data → Data
body_or_empty None = object no_members
body_or_empty (Some value) = value

-- an object, which is empty where it is not there
abbrev pub body_in : Option Data → Result Data Cause
body_in None = Ok (object no_members)
body_in (Some value) = if is_some (as_object value) then Ok value else Err BadField

-- an object, which must be there
abbrev pub object_in : Option Data → Result Data Cause
object_in None = Err BadField
object_in (Some value) = if is_some (as_object value) then Ok value else Err BadField

-- a whole number from 0
abbrev pub number_in : Data → Result ℕ Cause
number_in value = ok_or (option_and_then as_u64 (as_number value)) BadField

-- a number from 1 to a greatest one
abbrev pub from_1_to : ℕ → ℕ → Bool
from_1_to greatest n = nat_le 1 n && nat_le n greatest

-- into how many slices a reindex is cut at most
abbrev pub max_slices : ℕ
max_slices = 32

-- into how many slices a reindex is cut, and one where that is not said
abbrev pub slices_or_one : Option Data → Result ℕ Cause
slices_or_one None = Ok 1
slices_or_one (Some value) = number_in value >>= λ n. if from_1_to max_slices n then Ok n else Err BadField

-- how many documents a reindex writes in a second at most, where it is bounded
abbrev pub max_rate : ℕ
max_rate = 1000000

-- a rate, and none where -1 is written
abbrev pub rate_of : ℤ → Result (Option ℕ) Cause
rate_of (pos n) = if from_1_to max_rate n then Ok (Some n) else Err BadField
rate_of (negsuc zero) = Ok None
rate_of (negsuc (suc n)) = Err BadField

-- a rate, and none where that is not said
abbrev pub rate_or_none : Option Data → Result (Option ℕ) Cause
rate_or_none None = Ok None
rate_or_none (Some value) = ok_or (option_and_then as_i64 (as_number value)) BadField >>= rate_of

-- how many moves a shuffle makes at most
abbrev pub max_moves : ℕ
max_moves = 1000000

-- a number that must be there
abbrev pub needed_number : Option Data → Result ℕ Cause
needed_number None = Err BadField
needed_number (Some value) = number_in value

-- how many moves a shuffle makes
abbrev pub moves_in : Option Data → Result ℕ Cause
moves_in field = needed_number field >>= λ n. if nat_le n max_moves then Ok n else Err BadField

-- a keep-alive
abbrev pub optional_keep_alive : Option Data → Result (Option ℕ) Cause
optional_keep_alive None = Ok None
optional_keep_alive (Some value) = text_of (Some value) >>= λ text. ok_or (keep_alive_of text) BadField >>= λ ms. Ok (Some ms)

-- a whole number of milliseconds from 0, of 24 hours at most
abbrev pub time_in : Data → Result ℕ Cause
time_in value = number_in value >>= λ ms. if nat_le ms day_ms then Ok ms else Err BadField

-- the value `true`
abbrev pub truth_of : Option Bool → Result (Unit {0}) Cause
truth_of (Some true) = Ok tt
truth_of (Some false) = Err BadField
truth_of None = Err BadField

abbrev pub truth_in : Data → Result (Unit {0}) Cause
truth_in value = truth_of (as_bool value)
