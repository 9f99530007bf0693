use Rattle.std.proofs.Common.{Some, ap, ◌∙◌}
use Rattle.cancel_core.specs.Cancellation.{Cancellation}
use Rattle.cancel_core.specs.Cancellations.{with_entry}
use Rattle.cancel_core.proofs.Entries.{entry_changed}
use Rattle.cancel_core.proofs.cancels.CancelCore.begin.Goals as goal

pub returns-clause-begun : goal.returns-clause-begun
returns-clause-begun c =
    entry_changed c.self.inside.node c.self.inside.entries.entries c.self.inside.listings c.args.self.now c.self.view_is c.insert.new.self.entries c.args.task (Some c.in_ok-entry.entry) c.in_ok-insert.ensures.updates.0
    ∙ ap (λ (e : Cancellation). with_entry c.args.self.now c.args.task (Some e)) c.in_ok-entry.ensures.begun
