use Rattle.std.proofs.Common.{◌≡◌, Bool, nat_lt, insert, ap, sym, subst, ◌∙◌}
use Rattle.std.specs.List.{position_or_len}
use Rattle.std.specs.List.Sorted.{IsNonDecreasingBy}
use Rattle.cancel_core.specs.declared.act.Waiter.{Waiter}
use Rattle.cancel_core.specs.Cancellation.{with_waiter}
use Rattle.cancel_core.proofs.Waiters.{first_or_end, ascending-with_waiter}
use Rattle.cancel_core.proofs.entry.note.Goals as goal

pub returns-clause-ascending : goal.returns-clause-ascending
returns-clause-ascending c =
    let greater : Waiter → Bool = λ v. nat_lt c.args.waiter.cancel v.cancel in
    let first = first_or_end greater c.args.waiters.now.items in
    let place : c.unwrap_or-place.result ≡ position_or_len greater c.args.waiters.now.items = cc in
    let noted : c.insert.new.self.items ≡ with_waiter c.args.waiters.now.items c.args.waiter =
    c.in_ok-insert.ensures.items ∙ ap (λ k. insert c.args.waiters.now.items k c.args.waiter) place in
    subst (IsNonDecreasingBy (λ w. w.cancel)) (sym noted) (ascending-with_waiter c.args.waiters.now.items c.args.waiter c.requires)
