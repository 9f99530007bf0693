-- What is looked up of a run while its lines are printed.
use Rattle.std.specs.Prelude.{◌≡◌, ℕ, ◌+◌, List, length, map, reverse}
use Rattle.std.specs.HashMap.{get}
use Rattle.std.specs.HashSet.{contains_by}
use Rattle.std.specs.List.{range_with_len}
use Rattle.std.specs.Str.{bytes_eq}
use Rattle.task_ids.specs.declared.task_id.TaskId.{TaskId}
use Rattle.task_events.specs.Tasks.{reply_of}
use Rattle.task_events.specs.Turns.{events_of}
use Rattle.command_roots.specs.Known.{is_known}
use Rattle.line_print.specs.declared.run.Run.{Run}
use Rattle.line_print.specs.Ends.{same_id, reply_at}

-- what was looked up is what there is
pub record IsReady (run : Run) : Type 0 where
  pub turns : run.turns.items ≡ map (λ k. events_of k run.history.now) (range_with_len 0 (length run.script.now + 1))
  pub ends : (t : TaskId) → reply_at (reverse run.history.now) (get same_id run.ends t) ≡ reply_of t run.history.now
  pub known : (index : List ℕ) → contains_by (λ k. bytes_eq index k.now) run.known ≡ is_known run.corpus.now run.script.now index
