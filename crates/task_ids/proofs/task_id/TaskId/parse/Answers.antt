use Rattle.std.proofs.Common.{refl}
use Rattle.task_ids.proofs.task_id.TaskId.parse.Goals as goal

pub returns-in-Some-clause-malformed : goal.returns-in-Some-clause-malformed
returns-in-Some-clause-malformed c = (λ h. absurd (cc), λ h. absurd (h.1 c.in-Some.id ((c.in-Some.ensures c.in-Some.id).0 refl)))
