-- The lines that are printed: one JSON object a command, compact, its keys in byte order, and a newline.
use Rattle.std.specs.Prelude.{ℕ, ◌+◌, ◌-◌, Bool, not, ◌==◌, List, [], ◌∷◌, ◌++◌, length, map, count_by, codes, Option, Some, None}
use Rattle.std.specs.List.{list_any}
use Rattle.serde_json.specs.Data.{Data, number, unsigned, string, array, object, Members, no_members, member}
use Rattle.serde_json.specs.View.{items_of}
use Rattle.serde_json.specs.Written.{compact_text}
use Rattle.task_ids.specs.declared.task_id.TaskId.{TaskId}
use Rattle.task_ids.specs.TaskId.{task_id_text}
use Rattle.task_events.specs.declared.reply.Hit.{Hit}
use Rattle.task_events.specs.declared.reply.ShardCount.{ShardCount}
use Rattle.task_events.specs.declared.reply.SearchReply.{SearchReply}

abbrev members : List (List ℕ × Data) → Members
members [] = no_members
members (m ∷ more) = member m.0 m.1 (members more)

-- an object with these members, whose keys are in byte order
abbrev pub object_of : List (List ℕ × Data) → Data
object_of named = object (members named)

abbrev pub count : ℕ → Data
count n = number (unsigned n)

abbrev pub hit_json : Hit → Data
hit_json hit = object_of ((codes "_id", string hit.doc.id) ∷ (codes "_index", string hit.index) ∷ (codes "_source", hit.doc.source) ∷ [])

-- how many of an index's shards there are, and how many of them failed and how many did not
abbrev pub shards_json : ℕ → ℕ → Data
shards_json shards failed = object_of ((codes "failed", count failed) ∷ (codes "successful", count (shards - failed)) ∷ (codes "total", count shards) ∷ [])

abbrev pub total_json : ℕ → Data
total_json total = object_of ((codes "relation", string (codes "eq")) ∷ (codes "value", count total) ∷ [])

abbrev pub hits_json : SearchReply → Data
hits_json reply = object_of ((codes "hits", array (items_of (map hit_json reply.hits))) ∷ (codes "total", total_json reply.total) ∷ [])

-- the id by which a client asks for the next page, where there is a context
abbrev pub scroll_member : Option TaskId → List (List ℕ × Data)
scroll_member None = []
scroll_member (Some id) = (codes "_scroll_id", string (task_id_text id)) ∷ []

-- a search's reply, after Elasticsearch's search API
abbrev pub search_json : ℕ → SearchReply → Data
search_json shards reply = object_of (scroll_member reply.context ++ (codes "_shards", shards_json shards (length reply.failed)) ∷ (codes "hits", hits_json reply) ∷ [])

-- it is among those that answered
abbrev answered : List ShardCount → ℕ → Bool
answered counts shard = list_any (λ n. n.shard == shard) counts

-- how many shards were read: those that answered the query, and those that failed in it
abbrev pub shards_read : SearchReply → ℕ
shards_read reply = length reply.shards + count_by (λ f. not (answered reply.shards f.shard)) reply.failed

-- the line of a command that was answered
abbrev pub reply_line : ℕ → Data → List ℕ
reply_line command reply = compact_text (object_of ((codes "command", count command) ∷ (codes "reply", reply) ∷ [])) ++ 10 ∷ []
