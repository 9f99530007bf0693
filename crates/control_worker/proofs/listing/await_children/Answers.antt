use Rattle.std.proofs.Common.{None, sym, ◌∙◌, append-nil}
use Rattle.control_worker.specs.View.{view_of}
use Rattle.control_worker.specs.Cancels.{with_cancels}
use Rattle.control_worker.proofs.Listed.{quiet_awaits}
use Rattle.control_worker.proofs.listing.await_children.Goals as goal

pub returns-in-None-clause-did : goal.returns-in-None-clause-did
returns-in-None-clause-did c =
    let v = view_of c.args.core.now in
    quiet_awaits v _ c.args.acts.now.items c.args.acts.now.items c.args.parent c.args.children.now None (sym c.in-None.is ∙ c.in_ok-act.ensures.act) (sym (append-nil c.args.acts.now.items)) (λ i. with_cancels v (c.in_ok-act.ensures.listed i))
