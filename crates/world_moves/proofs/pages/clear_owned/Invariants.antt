use Rattle.std.proofs.Common.{◌≡◌, length}
use Rattle.task_events.specs.Contexts.{without_owned}
use Rattle.task_ids.specs.declared.task_id.TaskId.{TaskId}
use Rattle.world_moves.specs.Paging.{context_in}
use Rattle.world_moves.proofs.ContextTables.{each_to}
use Rattle.world_moves.proofs.pages.clear_owned.Given as goal

abbrev pub invariant-loop-table : goal.invariant-loop-table
invariant-loop-table l = ((q : TaskId) → context_in l.table-items q ≡ each_to (without_owned l.owner) l.table-index l.fn.contexts.items q) × (length l.table-items ≡ length l.fn.contexts.items)
