use Rattle.task_events.proofs.HitKeys.{same_by_cmp}
use Rattle.task_events.proofs.same_key.is_same_key.Goals as goal

pub returns : goal.returns
returns c = same_by_cmp c.args.one.now c.args.other.now c.cmp.result c.is_eq.result c.cmp.ensures c.is_eq.ensures
