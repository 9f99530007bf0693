-- What went away has expired.
use Rattle.std.proofs.Common.{◌≡◌, ◌≤◌, length}
use Rattle.std.specs.BTreeMap.{get}
use Rattle.task_ids.specs.declared.task_id.TaskId.{TaskId}
use Rattle.task_ids.specs.TaskIdOrder.{task_id_cmp}
use Rattle.task_events.specs.Contexts.{unexpired}
use Rattle.scroll_table.specs.Ends.{AreEndsOf}
use Rattle.scroll_table.specs.Owners.{AreOwnersOf}
use Rattle.scroll_table.specs.Versions.{AreVersionsOf}
use Rattle.scroll_table.proofs.table.take_expired.Given as goal

abbrev pub invariant-loop-id : goal.invariant-loop-id
invariant-loop-id l = record {
  ends : AreEndsOf l.ends l.contexts;
  owners : AreOwnersOf l.owners l.contexts;
  versions : AreVersionsOf l.versions l.contexts;
  left : (q : TaskId) → unexpired l.now (get task_id_cmp l.contexts q) ≡ unexpired l.now (get task_id_cmp l.initial.contexts q);
  fewer : length l.contexts.entries ≤ length l.initial.contexts.entries;
}

abbrev pub decreases-loop-id : goal.decreases-loop-id
decreases-loop-id l = length l.ends.ids.items
