use Rattle.std.proofs.Common.{◌≡◌, ◌+◌, ℕ, List, [], ◌∷◌, ◌++◌, length, length-append, slice_set, sym, refl, ap, ◌∙◌, subst, append_assoc, Some, arith}
use Rattle.std.specs.Prelude.{slice_get}
use Rattle.std.proofs.lemmas.Option.{slice_get_read}
use Rattle.run_inboxes.specs.Rows.{HandedOut}
use Rattle.run_inboxes.proofs.Rows.{handed_one}
use Rattle.run_inboxes.proofs.Pairs.{within}
use Rattle.run_inboxes.proofs.transpose.hand_out.Goals as goal

pub loop-thing-preserved : goal.loop-thing-preserved
loop-thing-preserved g c =
    let i = c.loop-thing.invariant in
    let x = c.in-Some.thing in
    let before = c.loop-thing.yielded in
    let columns = c.loop-thing.columns.items in
    let goes = ap (λ (l : List _). before ++ l) (sym c.in-Some.ensures.steps.0) ∙ i.3 in
    let now = c.index_mut-column.result.now in
    let low = within before c.next.new.self.rest.items c.args.row.items x goes in
    let at = slice_get_read columns (length columns) c.loop-thing.place now refl (let p = i.2 in let q = i.4.count in let r = c.requires in omega arith) c.index_mut-column.ensures.value in
    let one = handed_one c.args.columns.now.items before columns x now c.push.new.self i.4 (subst (λ (n : ℕ). slice_get columns n ≡ Some now) i.2 at) c.in_ok-push.ensures.items in (
      tt,
      tt,
      ap (λ (n : ℕ). n + 1) i.2 ∙ sym (length-append before (x ∷ [])),
      append_assoc before (x ∷ []) c.next.new.self.rest.items ∙ goes,
      subst (λ (n : ℕ). HandedOut c.args.columns.now.items (before ++ x ∷ []) (slice_set columns n c.push.new.self)) (sym i.2) one,
    )
