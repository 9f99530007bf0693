use Rattle.std.proofs.Common.{List, filter, ap, sym, ◌∙◌}
use Rattle.std.proofs.lemmas.List.Kept.{IsNonDecreasingBy-filter}
use Rattle.cancel_core.specs.declared.act.Waiter.{Waiter}
use Rattle.cancel_core.specs.Stage.{seen}
use Rattle.cancel_core.proofs.Placed.{still_when_placed, still_when_open, none_late}
use Rattle.cancel_core.proofs.entry.Entry.advance.Goals as goal

pub invariant_of-self : goal.invariant_of-self
invariant_of-self c =
    rw c.keep_waiting.ensures (IsNonDecreasingBy-filter (λ w. w.cancel) (λ w. w.wait) c.self.inside.waiters.items c.self.invariant.0, λ placed. none_late c.self.inside.waiters.items)

pub returns-then-is_placed : goal.returns-then-is_placed
returns-then-is_placed c =
    let waiters = ap (λ v. v.waiters) c.self.view_is in
    ap (seen c.args.stage.now) (c.keep_waiting.ensures ∙ ap (λ (ws : List Waiter). filter (λ w. w.wait) ws) waiters)
    ∙ sym (still_when_placed (seen c.args.stage.now c.args.self.now.waiters) (sym c.is_placed.ensures ∙ c.if-is_placed.true))

pub returns-else-is_placed : goal.returns-else-is_placed
returns-else-is_placed c =
    ap (seen c.args.stage.now) (ap (λ v. v.waiters) c.self.view_is)
    ∙ sym (still_when_open (seen c.args.stage.now c.args.self.now.waiters) (sym c.is_placed.ensures ∙ c.if-is_placed.false))
