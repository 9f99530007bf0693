use Rattle.std.proofs.Common.{◌≡◌, true, arith, subst}
use Rattle.std.specs.BTreeSet.{contains}
use Rattle.scroll_table.specs.Versions.{kept_cmp}
use Rattle.scroll_table.proofs.KeptOrder.{not_later, same_kept}
use Rattle.scroll_table.proofs.Ranked.{not_so}
use Rattle.scroll_table.proofs.versions.least_of.Goals as goal

pub returns-in_err-first-clause-none : goal.returns-in_err-first-clause-none
returns-in_err-first-clause-none c =
    rw c.from_residual.ensures (λ k same. (c.range.ensures.in_range tt).5 c.in_err-first.ensures.steps.0 k (c.start_of-from.ensures.takes k same, tt))

pub returns-then-first-shard-clause-kept : goal.returns-then-first-shard-clause-kept
returns-then-first-shard-clause-kept c =
    let found = c.in_ok-first.first.now in
    let first = rw c.in_ok-first.ensures.steps at ((c.range.ensures.in_range tt).1) in
    (found.id, subst (λ k. contains kept_cmp c.args.rows.now k ≡ true) (same_kept found c.args.shard c.if-first-shard.true) first.1)

pub returns-then-first-shard-clause-least : goal.returns-then-first-shard-clause-least
returns-then-first-shard-clause-least c k same is =
    let found = c.in_ok-first.first.now in
    let least = rw c.in_ok-first.ensures.steps at ((c.range.ensures.in_range tt).2 k (c.start_of-from.ensures.takes k same, tt) is) in
    let one : found.shard ≡ c.args.shard = c.if-first-shard.true in
    (not_later found k least).1 (omega (arith, same, one))

pub returns-else-first-shard-clause-none : goal.returns-else-first-shard-clause-none
returns-else-first-shard-clause-none c k same =
    let found = c.in_ok-first.first.now in
    let first = rw c.in_ok-first.ensures.steps at ((c.range.ensures.in_range tt).1) in
    not_so (contains kept_cmp c.args.rows.now k) (λ is.
    let least = rw c.in_ok-first.ensures.steps at ((c.range.ensures.in_range tt).2 k (c.start_of-from.ensures.takes k same, tt) is) in
    let low = (not_later found k least).0 in
    let high = c.start_of-from.ensures.high found first.0.0 in
    omega (arith, low, high, same))
