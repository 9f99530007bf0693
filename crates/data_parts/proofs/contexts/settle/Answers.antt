use Rattle.std.proofs.Common.{subst}
use Rattle.data_parts.specs.Slices.{Opens}
use Rattle.data_parts.proofs.contexts.settle.Goals as goal

pub returns-clause-settles : goal.returns-clause-settles
returns-clause-settles c =
    let mid = c.open.new.contexts in
    (mid, subst (λ b. Opens b mid c.args.task c.args.work.now c.args.reply.now c.args.now) c.in_ok-give_back.ensures.returned c.in_ok-open.ensures.opens, c.clear_owned.ensures)
