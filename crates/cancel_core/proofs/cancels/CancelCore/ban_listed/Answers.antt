use Rattle.std.proofs.Common.{ap, ◌∙◌}
use Rattle.cancel_core.specs.Cancellations.{Cancellations}
use Rattle.cancel_core.specs.Fields.{map_of}
use Rattle.cancel_core.specs.Listings.{with_listing}
use Rattle.cancel_core.proofs.Entries.{on_err}
use Rattle.cancel_core.proofs.cancels.CancelCore.ban_listed.Goals as goal

pub returns-in_err-number-clause-err : goal.returns-in_err-number-clause-err
returns-in_err-number-clause-err c =
    on_err c.from_residual.result _ (c.in_err-number.ensures.err c.self.inside.node (map_of c.self.inside.entries) ∙ c.self.view_is)

pub returns-then-number-gt0-clause-listed : goal.returns-then-number-gt0-clause-listed
returns-then-number-gt0-clause-listed c =
    c.in_ok-number.ensures.listed c.self.inside.node ∙ ap (λ (core : Cancellations). with_listing core c.args.parent c.args.children.now) c.self.view_is

pub returns-clause-listed : goal.returns-clause-listed
returns-clause-listed c =
    c.in_ok-number.ensures.listed c.self.inside.node ∙ ap (λ (core : Cancellations). with_listing core c.args.parent c.args.children.now) c.self.view_is
