use Rattle.std.proofs.Common.{ℕ, sym, ◌∙◌, subst}
use Rattle.run_inboxes.specs.Rows.{HasWidth, IsTurned}
use Rattle.run_inboxes.proofs.Linked.{rows_wide, all_may, all_closed}
use Rattle.run_inboxes.proofs.closing.close_all.Goals as goal

pub turned-requires : goal.turned-requires
turned-requires g c =
    let t = c.in_ok-inboxes.ensures in
    subst (λ (n : ℕ). HasWidth n c.in_ok-inboxes.field-0.rows.items) (sym (c.len-count.ensures ∙ c.args.all.ok.0)) (rows_wide c.args.all.items _ c.requires.linked t.rows)

pub finished-requires : goal.finished-requires
finished-requires g c =
    let t = c.in_ok-inboxes.ensures in
    let turned = subst (λ (n : ℕ). IsTurned n c.in_ok-inboxes.field-0.rows.items c.in_ok-columns.columns.items) (c.len-count.ensures ∙ c.args.all.ok.0) c.in_ok-columns.ensures in
    all_may c.args.all.items _ c.requires.linked t.rows _ turned _ t.inboxes

pub returns : goal.returns
returns g c =
    let t = c.in_ok-inboxes.ensures in
    let turned = subst (λ (n : ℕ). IsTurned n c.in_ok-inboxes.field-0.rows.items c.in_ok-columns.columns.items) (c.len-count.ensures ∙ c.args.all.ok.0) c.in_ok-columns.ensures in
    all_closed c.args.all.items _ c.requires.linked t.rows _ turned _ _ t.inboxes c.in_ok-tallies.ensures
