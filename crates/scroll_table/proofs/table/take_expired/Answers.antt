use Rattle.std.proofs.Common.{sym, arith, ◌∙◌}
use Rattle.std.specs.BTreeMap.{get}
use Rattle.task_ids.specs.TaskIdOrder.{task_id_cmp}
use Rattle.scroll_table.proofs.Timed.{none_left}
use Rattle.scroll_table.proofs.table.take_expired.Goals as goal

pub returns-clause-left : goal.returns-clause-left
returns-clause-left c id =
    let left = none_left c.args.now (get task_id_cmp c.loop-id.contexts id) (omega arith) (λ end is. c.in_default.ensures.none id end (c.loop-id.invariant.ends.each id ∙ is)) in
    sym left ∙ c.loop-id.invariant.left id
