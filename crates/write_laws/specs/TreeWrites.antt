-- How many documents a task and its descendants have written.
use Rattle.std.specs.Prelude.{ℕ, ◌+◌, ◌≡◌, List, [], ◌∷◌, Bool, true, false, not, ◌&&◌, ◌||◌, Some, if◌then◌else◌}
use Rattle.std.specs.Option.{option_map_or}
use Rattle.task_ids.specs.declared.task_id.TaskId.{TaskId}
use Rattle.task_events.specs.declared.event.Event.{Event}
use Rattle.task_events.specs.declared.event.Event.TheVariants.{Write}
use Rattle.task_events.specs.declared.event.Outcome.{Outcome}
use Rattle.task_events.specs.declared.request.Request.{Request}
use Rattle.task_events.specs.declared.request.Request.TheVariants.{Reindex, Slice, Bulk, BulkShard}
use Rattle.task_events.specs.declared.reply.Counts.{Counts}
use Rattle.task_events.specs.declared.reply.Reply.{Reply}
use Rattle.task_events.specs.Cancels.{turn_of}
use Rattle.task_events.specs.Counting.{carried}
use Rattle.task_events.specs.Requests.{request_of}
use Rattle.task_events.specs.Same.{same_task}
use Rattle.task_events.specs.Tasks.{descends, reply_of}
use Rattle.task_events.specs.Written.{is_created}
use Rattle.script_lang.specs.declared.command.Script.{Script}
use Rattle.command_roots.specs.Roots.{scripted}

-- the task w is t, or descends from it
abbrev pub is_in_tree : TaskId → TaskId → List Event → Bool
is_in_tree t w h = same_task t w || descends t w h

-- the turn of work that is going on is one of t or of a descendant
abbrev pub tree_is_writing : TaskId → List Event → Bool
tree_is_writing t h = option_map_or (λ w. is_in_tree t w h) (turn_of h) false

-- how many writes of t and its descendants pass a test of their outcome and of what happened before
abbrev pub tree_number : (Outcome → List Event → Bool) → TaskId → List Event → ℕ
tree_number passes t [] = 0
tree_number passes t (Write index shard outcome id ∷ h) = if tree_is_writing t h && passes outcome h then 1 + tree_number passes t h else tree_number passes t h
tree_number passes t (_ ∷ h) = tree_number passes t h

-- how many documents t and its descendants have written with such an outcome
abbrev pub tree_writes : (Outcome → Bool) → TaskId → List Event → ℕ
tree_writes test t h = tree_number (λ outcome past. test outcome) t h

-- ---- the tasks that write, and their replies

-- it asks for documents to be written, by its task or by those that this asks for
abbrev pub is_to_write : Request → Bool
is_to_write (Reindex ask) = true
is_to_write (Slice ask) = true
is_to_write (Bulk ask) = true
is_to_write (BulkShard ask) = true
is_to_write _ = false

-- these counts are of the documents that a task and its descendants have created and replaced
pub record CountsTree (t : TaskId) (h : List Event) (counts : Counts) : Type 0 where
  pub created : counts.created ≡ tree_writes is_created t h
  pub updated : counts.updated ≡ tree_writes (λ outcome. not (is_created outcome)) t h

-- Each task that was to write and has ended, cancelled or not, replied with the numbers of the documents that it and its descendants have created and replaced.
abbrev pub CountsItsWrites : Script → List Event → Type 0
CountsItsWrites script h =
    (t : TaskId) (request : Request) (reply : Reply) → request_of (scripted script) t h ≡ Some request → is_to_write request ≡ true → reply_of t h ≡ Some reply → CountsTree t h (carried reply)
