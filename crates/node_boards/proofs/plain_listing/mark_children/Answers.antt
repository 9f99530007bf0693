-- One slot more is passed.
use Rattle.std.proofs.Common.{◌≡◌, ℕ, ◌+◌, ◌<◌, ◌++◌, ◌∷◌, [], sym, ap, ◌∙◌, arith, take, length, List, Option, Some, None}
use Rattle.std.proofs.lemmas.List.{take_more_set, get_or-set_same, get_or-set_other, append-nil}
use Rattle.node_boards.specs.PlainLists.{handed_of, handed_below, last, last_of, as_list}
use Rattle.node_boards.proofs.Passing.{passed_more, now_handed, handed_more}
use Rattle.node_boards.proofs.plain_listing.mark_children.Goals as goal
use Rattle.node_boards.proofs.plain_listing.mark_children.Goals.{in-Some, in_default}

pub loop-i-preserved : goal.loop-i-preserved
loop-i-preserved g c =
    let b = c.args.ban.now in let t = c.args.table.now in let marked = c.args.marked.now in
    let u = c.loop-i.table in let kept = c.loop-i.marked in let found = c.loop-i.found in let i = c.loop-i.i in let count = c.loop-i.count in
    let inside : i < length kept = omega (arith, c.loop-i-test.true, c.loop-i.auto.marked) in
    let room : count < length found = omega (arith, c.loop-i.auto.found, c.loop-i.invariant.within, c.requires.room) in
    let told = c.handed.ensures ∙ ap (λ s. handed_of s (last kept i)) c.pass_slot-child.ensures.child in
    let handed = now_handed b t u c.pass_slot-child.new.self marked kept kept i c.handed.result c.loop-i.invariant.passed c.pass_slot-child.ensures.marks told in
    let below = c.loop-i.invariant.handed in
    elim c.match-handed.branch [
      | in-Some w ↦ record {
        within = omega (arith, w.count-is);
        handed = ap (λ m. take m c.match-handed.found) w.count-is ∙ ap (take (count + 1)) w.found-is ∙ take_more_set found count w.in-Some.number room
            ∙ ap (λ l. l ++ w.in-Some.number ∷ []) below ∙ ap (λ r. handed_below b t marked i ++ as_list r) (sym w.in-Some.is) ∙ sym (handed_more b t marked i c.handed.result handed);
        passed = passed_more b t u c.pass_slot-child.new.self marked kept c.match-handed.marked i c.handed.result c.loop-i.invariant.passed c.pass_slot-child.ensures.marks told
            (ap (λ l. last l i) w.marked-is ∙ get_or-set_same kept i (Some w.in-Some.number) None inside ∙ ap (λ r. last_of r (last kept i)) (sym w.in-Some.is))
            (λ k n. ap (λ l. last l k) w.marked-is ∙ get_or-set_other kept i k (Some w.in-Some.number) None n);
      }
      | in_default w ↦ record {
        within = omega (arith, w.count-is);
        handed = ap (λ m. take m c.match-handed.found) w.count-is ∙ ap (take count) w.found-is ∙ below ∙ sym (append-nil (handed_below b t marked i))
            ∙ ap (λ r. handed_below b t marked i ++ as_list r) (sym w.in_default.is) ∙ sym (handed_more b t marked i c.handed.result handed);
        passed = passed_more b t u c.pass_slot-child.new.self marked kept c.match-handed.marked i c.handed.result c.loop-i.invariant.passed c.pass_slot-child.ensures.marks told
            (ap (λ l. last l i) w.marked-is ∙ ap (λ r. last_of r (last kept i)) (sym w.in_default.is))
            (λ k n. ap (λ l. last l k) w.marked-is);
      }
    ]
