use Rattle.std.proofs.Common.{refl}
use Rattle.task_top.proofs.EarlierRuns.{so_far_before}
use Rattle.task_top.proofs.laws.earlier_is_so_far.Goals as goal

pub returns : goal.returns
returns c = λ cluster corpus script later h so_far. so_far_before cluster corpus script _ h so_far (later, refl)
