use Rattle.std.proofs.Common.{Bool, ◌&&◌, not, ap, sym, ◌∙◌}
use Rattle.cancel_core.specs.Cancellation.{is_placed}
use Rattle.cancel_core.proofs.entry.Entry.answers_at_once.Goals as goal

pub returns-then-is_placed : goal.returns-then-is_placed
returns-then-is_placed c =
    let placed = ap is_placed (sym c.self.view_is) ∙ sym c.is_placed.ensures ∙ c.if-is_placed.true in
    ap (λ (b : Bool). b && not c.args.waiter.now.wait) (sym placed)

pub returns-else-is_placed : goal.returns-else-is_placed
returns-else-is_placed c =
    let placed = ap is_placed (sym c.self.view_is) ∙ sym c.is_placed.ensures ∙ c.if-is_placed.false in
    c.if-is_placed.false ∙ ap (λ (b : Bool). b && not c.args.waiter.now.wait) (sym placed)
