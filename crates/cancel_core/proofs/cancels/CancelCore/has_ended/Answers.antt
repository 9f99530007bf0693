use Rattle.std.proofs.Common.{is_some, ap, ◌∙◌}
use Rattle.cancel_core.specs.Cancellation.{Cancellation}
use Rattle.cancel_core.proofs.Entries.{found, missing}
use Rattle.cancel_core.proofs.cancels.CancelCore.has_ended.Goals as goal

pub returns-in-Some : goal.returns-in-Some
returns-in-Some c = c.has_ended.ensures ∙ ap (λ (v : Cancellation). is_some v.receipt) (found c.args.self.now c.args.task c.in-Some.entry.now c.in-Some.ensures)

pub returns-in-None : goal.returns-in-None
returns-in-None c = ap (λ (v : Cancellation). is_some v.receipt) (missing c.args.self.now c.args.task c.in-None.ensures)
