-- What is left of a table without what has expired.
use Rattle.std.proofs.Common.{◌≡◌, List, length, ap, ◌∙◌}
use Rattle.std.specs.List.Sorted.{IsStrictlySortedBy}
use Rattle.std.specs.Map.{keys_of}
use Rattle.std.specs.FinMap.{len, len-entries, from_entries}
use Rattle.task_ids.specs.TaskIdOrder.{task_id_cmp}
use Rattle.task_ids.specs.declared.task_id.TaskId.{TaskId}
use Rattle.task_ids.proofs.TaskIdKeys.{entries_of_rising}
use Rattle.task_events.specs.declared.context.Context.{Context}

-- how many contexts a table has
pub len_rising : (es : List (TaskId × Context)) → IsStrictlySortedBy task_id_cmp (keys_of es) → len (from_entries {R = task_id_cmp} es) ≡ length es
len_rising es rising = len-entries (from_entries es) ∙ ap length (entries_of_rising es rising)
