-- What went away has expired, and its cursors went with it.
use Rattle.std.proofs.Common.{◌≡◌, ◌≤◌, None, cond, length}
use Rattle.std.specs.BTreeMap.{get}
use Rattle.std.specs.FinMap as finite
use Rattle.task_ids.specs.declared.task_id.TaskId.{TaskId}
use Rattle.task_ids.specs.TaskIdOrder.{task_id_cmp}
use Rattle.task_events.specs.Contexts.{unexpired}
use Rattle.scroll_table.specs.Ends.{AreEndsOf}
use Rattle.scroll_table.specs.Versions.{AreVersionsOf}
use Rattle.point_in_time.specs.Pits.{gone_by}
use Rattle.point_in_time.proofs.table.take_expired.Given as goal

abbrev pub invariant-loop-id : goal.invariant-loop-id
invariant-loop-id l = record {
  ends : AreEndsOf l.ends l.contexts;
  versions : AreVersionsOf l.versions l.contexts;
  left : (q : TaskId) → unexpired l.now (get task_id_cmp l.contexts q) ≡ unexpired l.now (get task_id_cmp l.initial.contexts q);
  spared : (q : TaskId) → cond (gone_by l.now (get task_id_cmp l.contexts q)) None (finite.get l.cursors q) ≡ cond (gone_by l.now (get task_id_cmp l.initial.contexts q)) None (finite.get l.initial.cursors q);
  fewer : length l.contexts.entries ≤ length l.initial.contexts.entries;
}

abbrev pub decreases-loop-id : goal.decreases-loop-id
decreases-loop-id l = length l.ends.ids.items
