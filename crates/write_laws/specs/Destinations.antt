-- Where tasks write: to the index that each was asked to write to.
use Rattle.std.specs.Prelude.{ℕ, ◌≡◌, List, [], ◌∷◌, Option, Some, None, true, option_and_then, ⊤}
use Rattle.task_ids.specs.declared.task_id.TaskId.{TaskId}
use Rattle.task_events.specs.declared.event.Event.{Event}
use Rattle.task_events.specs.declared.event.Event.TheVariants.{Write}
use Rattle.task_events.specs.declared.request.Request.{Request}
use Rattle.task_events.specs.declared.request.Request.TheVariants.{Reindex, Slice, Bulk, BulkShard}
use Rattle.task_events.specs.Requests.{Scripted, request_of}
use Rattle.write_laws.specs.TreeWrites.{tree_is_writing}

-- the index to which a request has documents written
abbrev pub dest_in : Request → Option (List ℕ)
dest_in (Reindex ask) = Some ask.dest
dest_in (Slice ask) = Some ask.reindex.dest
dest_in (Bulk ask) = Some ask.dest
dest_in (BulkShard ask) = Some ask.dest
dest_in _ = None

-- that to which a task was asked to write
abbrev pub dest_asked : Scripted → TaskId → List Event → Option (List ℕ)
dest_asked script t h = option_and_then dest_in (request_of script t h)

-- all that t and its descendants have written is in this index
abbrev pub WritesInto : List ℕ → TaskId → List Event → Type 0
WritesInto dest t [] = ⊤
WritesInto dest t (Write index shard outcome id ∷ h) = (tree_is_writing t h ≡ true → index ≡ dest) × WritesInto dest t h
WritesInto dest t (_ ∷ h) = WritesInto dest t h
