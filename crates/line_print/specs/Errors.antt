-- What is told in place of a reply.
use Rattle.std.specs.Prelude.{ℕ, List, [], ◌∷◌, Option, Some, None, map, codes}
use Rattle.serde_json.specs.Data.{Data, null, string, array}
use Rattle.serde_json.specs.View.{items_of}
use Rattle.query_parse.specs.declared.fault.BodyError.{BodyError}
use Rattle.query_parse.specs.declared.fault.BodyError.TheVariants.{UnknownField, BadQuery, BadSort, BadSize, WindowTooLarge, Memory}
use Rattle.query_parse.specs.declared.fault.ReindexError.{ReindexError}
use Rattle.query_parse.specs.declared.fault.ReindexError.TheVariants as reindexes
use Rattle.query_parse.specs.declared.fault.QueryFault.{QueryFault}
use Rattle.query_parse.specs.declared.fault.QueryFault.TheVariants.{UnknownQuery, BadValue, NotOneKey}
use Rattle.task_ids.specs.declared.task_id.TaskId.{TaskId}
use Rattle.task_ids.specs.TaskId.{task_id_text, node_name}
use Rattle.task_events.specs.declared.reply.FailedShard.{FailedShard}
use Rattle.task_events.specs.declared.reply.ShardFailure.{ShardFailure}
use Rattle.task_events.specs.declared.reply.ShardFailure.TheVariants.{Cancelled, Rejected}
use Rattle.task_events.specs.Printed.{object_of, count}
use Rattle.scroll_table.specs.declared.context.PageError.{PageError}
use Rattle.scroll_table.specs.declared.context.PageError.TheVariants.{Missing, Busy}

-- ---- why a search or a reindex did not start

abbrev pub fault_name : QueryFault → List ℕ
fault_name UnknownQuery = codes "unknown_query"
fault_name BadValue = codes "bad_value"
fault_name NotOneKey = codes "not_one_key"

-- an error about one field
abbrev pub field_error : List ℕ → List ℕ → Data
field_error kind field = object_of ((codes "field", string field) ∷ (codes "type", string kind) ∷ [])

-- the first fault of a query, by its path
abbrev pub bad_query : List ℕ → QueryFault → Data
bad_query path fault = object_of ((codes "kind", string (fault_name fault)) ∷ (codes "path", string path) ∷ (codes "type", string (codes "bad_query")) ∷ [])

-- the first fault of a search's body; want of memory is none
abbrev pub body_error : BodyError → Data
body_error (UnknownField field) = field_error (codes "unknown_field") field
body_error (BadQuery path fault) = bad_query path fault
body_error (BadSort field) = field_error (codes "bad_sort") field
body_error (BadSize field) = field_error (codes "bad_size") field
body_error (WindowTooLarge window) = object_of ((codes "limit", count 10000) ∷ (codes "type", string (codes "window_too_large")) ∷ (codes "window", count window) ∷ [])
body_error Memory = null

-- the first fault of a reindex's body; want of memory is none
abbrev pub reindex_error : ReindexError → Data
reindex_error (reindexes.UnknownField path) = field_error (codes "unknown_field") path
reindex_error (reindexes.BadReindex path) = field_error (codes "bad_reindex") path
reindex_error (reindexes.BadQuery path fault) = bad_query path fault
reindex_error reindexes.Memory = null

-- the index is not known
abbrev pub index_not_found : List ℕ → Data
index_not_found index = object_of ((codes "index", string index) ∷ (codes "type", string (codes "index_not_found")) ∷ [])

-- the node has no free slot
abbrev pub rejected : ℕ → Data
rejected node = object_of ((codes "node", string (node_name node)) ∷ (codes "type", string (codes "rejected")) ∷ [])

-- ---- why a search has no answer

abbrev pub task_cancelled : List ℕ → TaskId → Data
task_cancelled reason task = object_of ((codes "reason", string reason) ∷ (codes "task", string (task_id_text task)) ∷ (codes "type", string (codes "task_cancelled")) ∷ [])

abbrev pub shard_failure : ℕ → ShardFailure → Data
shard_failure shard (Cancelled task cancel) = object_of ((codes "shard", count shard) ∷ (codes "task", string (task_id_text task)) ∷ (codes "type", string (codes "task_cancelled")) ∷ [])
shard_failure shard (Rejected node) = object_of ((codes "node", string (node_name node)) ∷ (codes "shard", count shard) ∷ (codes "type", string (codes "rejected")) ∷ [])

abbrev pub failed_shard : FailedShard → Data
failed_shard failed = shard_failure failed.shard failed.failure

abbrev pub all_shards_failed : List FailedShard → Data
all_shards_failed failed = object_of ((codes "shards", array (items_of (map failed_shard failed))) ∷ (codes "type", string (codes "all_shards_failed")) ∷ [])

-- ---- why another command did nothing

-- a task's id, or null where the command that was named started none
abbrev pub id_or_null : Option TaskId → Data
id_or_null None = null
id_or_null (Some task) = string (task_id_text task)

abbrev pub not_found : Option TaskId → Data
not_found task = object_of ((codes "task", id_or_null task) ∷ (codes "type", string (codes "not_found")) ∷ [])

-- why a context gives no page
abbrev pub context_fault : PageError → List ℕ
context_fault Missing = codes "context_missing"
context_fault Busy = codes "context_busy"

-- the context of a scroll, which a command names, gives no page
abbrev pub context_error : Option TaskId → PageError → Data
context_error id error = object_of ((codes "scroll_id", id_or_null id) ∷ (codes "type", string (context_fault error)) ∷ [])

-- an error of which there is nothing more to tell
abbrev pub plain_error : List ℕ → Data
plain_error kind = object_of ((codes "type", string kind) ∷ [])

-- so many messages are in flight, and none has that place
abbrev pub no_such_message : ℕ → Data
no_such_message in_flight = object_of ((codes "in_flight", count in_flight) ∷ (codes "type", string (codes "no_such_message")) ∷ [])
