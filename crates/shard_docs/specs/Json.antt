-- The JSON of a line.
use Rattle.std.specs.Prelude.{ℕ, List, [], ◌∷◌, length, Bool, true, false, not, ◌==◌, if◌then◌else◌, nat_lt, is_some, Result, Ok, Err}
use Rattle.std.specs.Option.{ok_or}
use Rattle.std.specs.Str.{is_utf8}
use Rattle.serde_json.specs.Data.{Data}
use Rattle.serde_json.specs.Find.{as_object}
use Rattle.serde_json.specs.Read.{read}
use Rattle.serde_json.specs.Written.{has_float}
use Rattle.task_ids.specs.declared.cause.Cause.{Cause}
use Rattle.task_ids.specs.declared.cause.Cause.TheVariants.{LineTooLong, BadUtf8, BadJson, NotWhole, NotObject}
use Rattle.shard_docs.specs.Fault.{◌>>=◌}

-- how many bytes a line has at most, without its end
unfoldable pub max_line : ℕ
max_line = 1048576

-- a line is a text that may be read: it is not too long, and it is UTF-8
unfoldable pub is_text : List ℕ → Bool
is_text line = if nat_lt max_line (length line) then false else is_utf8 line

-- the first line that is not empty is a text that may be read, if there is such a line
unfoldable pub begins_with_text : List (List ℕ) → Bool
begins_with_text [] = true
begins_with_text (line ∷ rest) = if length line == 0 then begins_with_text rest else is_text line

-- a line of UTF-8 as JSON, which nests at most 127 deep
unfoldable pub json_of : List ℕ → Result Data Cause
json_of line =
    if nat_lt max_line (length line) then Err LineTooLong
    else (if not (is_utf8 line) then Err BadUtf8 else ok_or (read line) BadJson)

-- the JSON of a line whose numbers are all whole
unfoldable pub whole_json_of : List ℕ → Result Data Cause
whole_json_of line = do
  value ← json_of line
  if has_float value then Err NotWhole else Ok value

-- the source of a document, which is an object
unfoldable pub source_of : List ℕ → Result Data Cause
source_of line = do
  value ← whole_json_of line
  if is_some (as_object value) then Ok value else Err NotObject
