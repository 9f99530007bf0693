use Rattle.std.proofs.Common.{ap, subst, ◌∙◌}
use Rattle.std.specs.List.Sorted.{IsNonDecreasingBy}
use Rattle.cancel_core.specs.Cancellation.{Cancellation}
use Rattle.cancel_core.proofs.Entries.{found}
use Rattle.cancel_core.proofs.cancels.CancelCore.waiters.Goals as goal

pub returns-in-Some-clause-ascending : goal.returns-in-Some-clause-ascending
returns-in-Some-clause-ascending c =
    subst (IsNonDecreasingBy (λ w. w.cancel)) (c.waiters.ensures.waiters ∙ ap (λ (v : Cancellation). v.waiters) (found c.args.self.now c.args.task.now c.in-Some.entry.now c.in-Some.ensures)) c.waiters.ensures.ascending
