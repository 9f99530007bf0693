use Rattle.std.proofs.Common.{arith}
use Rattle.scroll_table.specs.declared.owners.Owned.{Owned}
use Rattle.scroll_table.specs.Owners.{owns}
use Rattle.scroll_table.proofs.Ranked.{same_rank, not_after, same_test, not_so}
use Rattle.scroll_table.proofs.owners.Owners.next.Goals as goal

pub returns-in_err-next-clause-none : goal.returns-in_err-next-clause-none
returns-in_err-next-clause-none c =
    rw c.from_residual.ensures (λ q later. (c.range.ensures.in_range tt).5 c.in_err-next.ensures.steps.0 (record { owner = c.args.owner; id = q }) (c.start_of-from.ensures.takes q later, tt))

pub returns-then-eq-clause-skipped : goal.returns-then-eq-clause-skipped
returns-then-eq-clause-skipped c q later sooner =
    let found = c.in_ok-next.next.now in
    let asked : Owned = record { owner = c.args.owner; id = q } in
    let first = rw c.in_ok-next.ensures.steps at ((c.range.ensures.in_range tt).1) in
    not_so (owns c.args.self.now c.args.owner q) (λ is.
    let least = rw c.in_ok-next.ensures.steps at ((c.range.ensures.in_range tt).2 asked (c.start_of-from.ensures.takes q later, tt) is) in
    let not_later = (not_after found asked least).1 (c.start_of-from.ensures.high found first.0.0) in
    omega (arith, not_later, sooner))

pub returns-else-eq-clause-none : goal.returns-else-eq-clause-none
returns-else-eq-clause-none c q later =
    let found = c.in_ok-next.next.now in
    let asked : Owned = record { owner = c.args.owner; id = q } in
    let first = rw c.in_ok-next.ensures.steps at ((c.range.ensures.in_range tt).1) in
    not_so (owns c.args.self.now c.args.owner q) (λ is.
    let least = rw c.in_ok-next.ensures.steps at ((c.range.ensures.in_range tt).2 asked (c.start_of-from.ensures.takes q later, tt) is) in
    let low = (not_after found asked least).0 in
    let high = c.start_of-from.ensures.high found first.0.0 in
    let test = same_test found.owner c.args.owner (same_rank found.owner c.args.owner (omega (arith, low, high))) in
    let other = c.if-eq.ensures in
    cc)
