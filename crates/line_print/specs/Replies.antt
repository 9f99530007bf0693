-- The parts of a search's reply that are appended in turn.
use Rattle.std.specs.Prelude.{ℕ, List, ◌++◌, Option, Some, None, codes}
use Rattle.serde_json.specs.Data.{string}
use Rattle.serde_json.specs.Written.{compact_text}
use Rattle.task_ids.specs.declared.task_id.TaskId.{TaskId}
use Rattle.task_ids.specs.TaskId.{task_id_text}
use Rattle.task_events.specs.declared.reply.SearchReply.{SearchReply}
use Rattle.task_events.specs.Printed.{shards_read}
use Rattle.line_print.specs.declared.write.Shards.{Shards}
use Rattle.line_print.specs.declared.write.Shards.TheVariants.{OfIndex, Read}

-- how many shards a reply tells
abbrev pub shards_told : Shards → SearchReply → ℕ
shards_told (OfIndex shards) reply = shards
shards_told Read reply = shards_read reply

-- what stands before the shards of a reply: the id of its context, if it has one
abbrev pub opening : Option TaskId → List ℕ
opening None = codes "{\"_shards\":"
opening (Some id) = codes "{\"_scroll_id\":" ++ (compact_text (string (task_id_text id)) ++ codes ",\"_shards\":")
