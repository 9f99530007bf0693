-- Up to this id no context is left that can be cleared, and no other one is gone.
use Rattle.std.proofs.Common.{◌≡◌, ◌-◌, ◌≤◌, ◌^◌, false, Some}
use Rattle.std.specs.BTreeMap.{get}
use Rattle.task_ids.specs.declared.task_id.TaskId.{TaskId}
use Rattle.task_ids.specs.TaskIdOrder.{task_id_cmp}
use Rattle.task_events.specs.Contexts.{can_clear, without_owned}
use Rattle.scroll_table.specs.Ends.{AreEndsOf}
use Rattle.scroll_table.specs.Owners.{AreOwnersOf, rank, rank_after}
use Rattle.scroll_table.specs.Versions.{AreVersionsOf}
use Rattle.scroll_table.proofs.table.clear_each.Given as goal

abbrev pub invariant-loop-id : goal.invariant-loop-id
invariant-loop-id l = record {
  ends : AreEndsOf l.ends l.contexts;
  owners : AreOwnersOf l.owners l.contexts;
  versions : AreVersionsOf l.versions l.contexts;
  left : (q : TaskId) → without_owned l.owner (get task_id_cmp l.contexts q) ≡ without_owned l.owner (get task_id_cmp l.initial.contexts q);
  passed : (q : TaskId) → rank q ≤ rank_after l.after → can_clear (Some l.owner) (get task_id_cmp l.contexts q) ≡ false;
}

abbrev pub decreases-loop-id : goal.decreases-loop-id
decreases-loop-id l = 2 ^ 24 - rank_after l.after
