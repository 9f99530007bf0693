use Rattle.std.proofs.Common.{List, [], ◌∷◌, ◌++◌, length, sym, ap, ◌∙◌, append_assoc}
use Rattle.run_inboxes.proofs.Rows.{turned_one}
use Rattle.run_inboxes.proofs.Pairs.{there}
use Rattle.run_inboxes.proofs.transpose.turned.Goals as goal

pub loop-row-preserved : goal.loop-row-preserved
loop-row-preserved g c =
    let i = c.loop-row.invariant in
    let x = c.in-Some.row in
    let before = c.loop-row.yielded in
    let goes = ap (λ (l : List _). before ++ l) (sym c.in-Some.ensures.steps.0) ∙ i.2 in
    let wide = c.requires (length before) x (there before c.next.new.self.rest.items c.args.rows.items x goes) in (
      tt,
      tt,
      append_assoc before (x ∷ []) c.next.new.self.rest.items ∙ goes,
      turned_one c.args.width before c.loop-row.columns.items c.hand_out.new.columns.items x i.3 wide c.in_ok-hand_out.ensures,
    )
