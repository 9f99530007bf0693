use Rattle.std.proofs.Common.{◌≡◌, length}
use Rattle.task_ids.specs.declared.task_id.TaskId.{TaskId}
use Rattle.world_moves.specs.Paging.{context_in}
use Rattle.world_moves.proofs.ContextTables.{over_to}
use Rattle.world_moves.proofs.pages.expire.Given as goal

abbrev pub invariant-loop-table : goal.invariant-loop-table
invariant-loop-table l = ((q : TaskId) → context_in l.table-items q ≡ over_to l.now l.table-index l.fn.contexts.items q) × (length l.table-items ≡ length l.fn.contexts.items)
