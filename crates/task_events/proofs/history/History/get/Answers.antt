use Rattle.std.proofs.Common.{◌≡◌, ◌≤◌, ◌/◌, ◌%◌, ◌*◌, ◌-◌, Some, length, reverse, slice_get, option_copied, ap, sym, ◌∙◌, arith}
use Rattle.task_events.proofs.Pieces.{lent_is, at_full, at_last}
use Rattle.task_events.proofs.history.History.get.Goals as goal

pub returns-in-Some : goal.returns-in-Some
returns-in-Some c =
    let full = c.self.inside.full.items in
    let piece : slice_get full (c.args.at / 4096) ≡ Some c.in-Some.piece.now =
    sym (ap option_copied (sym c.in-Some.is) ∙ lent_is c.deref.result.now (c.args.at / 4096) c.get.result c.get.ensures.lookup ∙ ap (λ l. slice_get l (c.args.at / 4096)) c.deref.ensures.value) in
    lent_is c.deref-in-Some.result.now (c.args.at % 4096) c.get-in-Some.result c.get-in-Some.ensures.lookup
    ∙ ap (λ l. slice_get l (c.args.at % 4096)) c.deref-in-Some.ensures.value
    ∙ sym (ap (λ h. slice_get (reverse h) c.args.at) (sym c.self.view_is)
    ∙ at_full (λ piece. piece.items) full c.self.inside.last.items c.args.at c.in-Some.piece.now c.self.invariant.0 piece)

pub returns-in-None : goal.returns-in-None
returns-in-None c =
    let full = c.self.inside.full.items in
    let past : length full * 4096 ≤ c.args.at = omega (arith, c.in-None.ensures.lookup.3, ap length c.deref.ensures.value) in
    let many : c.len.result ≡ length full = omega (arith, c.len.ensures) in
    lent_is c.deref-in-None.result.now (c.args.at - c.len.result * 4096) c.get-in-None.result c.get-in-None.ensures.lookup
    ∙ ap (λ l. slice_get l (c.args.at - c.len.result * 4096)) c.deref-in-None.ensures.value
    ∙ ap (λ n. slice_get c.self.inside.last.items (c.args.at - n * 4096)) many
    ∙ sym (ap (λ h. slice_get (reverse h) c.args.at) (sym c.self.view_is)
    ∙ at_last (λ piece. piece.items) full c.self.inside.last.items c.args.at c.self.invariant.0 past)
