use Rattle.std.proofs.Common.{Some, ap, ◌∙◌}
use Rattle.cancel_core.proofs.Entries.{same_written, on_err}
use Rattle.cancel_core.proofs.cancels.join_in.Goals as goal

pub returns-in_err-join-in-Some-clause-err : goal.returns-in_err-join-in-Some-clause-err
returns-in_err-join-in-Some-clause-err c = on_err c.from_residual.result _ (λ q.
    ((c.get_mut.follows.holds c.join.new.self).3 c.requires).0 q
    ∙ same_written c.args.entries.now.entries c.args.task q (Some c.join.new.self) (ap Some c.in_err-join-in-Some.ensures.err ∙ c.in-Some.ensures.value))
