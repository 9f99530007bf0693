use Rattle.std.proofs.Common.{◌++◌, Some, None, arith, sym, ap, ◌∙◌}
use Rattle.std.proofs.lemmas.List.{append-nil}
use Rattle.std.specs.Option.{option_copied}
use Rattle.cancel_core.specs.Fields.{core_with}
use Rattle.cancel_core.proofs.Leaving.{ack_of_last, no_ack_before, leaving_at}
use Rattle.cancel_core.proofs.listings.Listings.add_ack.Goals as goal

pub returns-in_default : goal.returns-in_default
returns-in_default c node es =
    let acts = c.args.acts.now.items in
    sym (ap (λ more. acts ++ more) (leaving_at node es c.args.self.now c.args.task.now c.args.stopped c.if-not-stopped.false None (sym c.get.ensures.value ∙ ap option_copied c.in_default.is)) ∙ append-nil acts)

pub returns-in_ok-push : goal.returns-in_ok-push
returns-in_ok-push c node es =
    let acts = c.args.acts.now.items in
    let parent = c.in-Some.parent.now in
    let leaving = leaving_at node es c.args.self.now c.args.task.now c.args.stopped c.if-not-stopped.false (Some parent) (sym c.in-Some.ensures.value) in
    let last = ack_of_last (core_with node es c.args.self.now) parent (omega (arith, c.number.ensures, c.if-number-le1.true)) in
    c.in_ok-push.ensures.items ∙ sym (ap (λ more. acts ++ more) (leaving ∙ last))

pub returns-else-number-le1 : goal.returns-else-number-le1
returns-else-number-le1 c node es =
    let acts = c.args.acts.now.items in
    let parent = c.in-Some.parent.now in
    let leaving = leaving_at node es c.args.self.now c.args.task.now c.args.stopped c.if-not-stopped.false (Some parent) (sym c.in-Some.ensures.value) in
    let more = no_ack_before (core_with node es c.args.self.now) parent (omega (arith, c.number.ensures, c.if-number-le1.false)) in
    sym (ap (λ more. acts ++ more) (leaving ∙ more) ∙ append-nil acts)
