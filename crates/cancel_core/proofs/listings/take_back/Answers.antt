use Rattle.std.proofs.Common.{List, sym, ap, ◌∙◌}
use Rattle.task_ids.specs.declared.task_id.TaskId.{TaskId}
use Rattle.task_ids.proofs.TaskIdKeys.{one_removed}
use Rattle.cancel_core.specs.Fields.{map_of}
use Rattle.cancel_core.specs.Listings.{taken_back}
use Rattle.cancel_core.proofs.Noting.{last_back}
use Rattle.cancel_core.proofs.listings.take_back.Goals as goal

pub loop-child-preserved : goal.loop-child-preserved
loop-child-preserved c =
    let waits = c.loop-child.waits in
    let fresh = c.pop.new.self.items in
    ap (taken_back fresh) (one_removed waits.entries c.remove.new.self.entries c.in-Some.child c.remove.ensures.updates.0)
    ∙ sym (last_back fresh c.in-Some.child (map_of waits))
    ∙ ap (λ (ts : List TaskId). taken_back ts (map_of waits)) (sym c.in-Some.ensures.items)
    ∙ c.loop-child.invariant
