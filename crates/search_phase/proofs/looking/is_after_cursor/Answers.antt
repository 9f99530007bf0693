-- A key stands after another where the other stands before it.
use Rattle.std.proofs.Common.{◌≡◌, refl, sym, ap, ◌∙◌}
use Rattle.std.specs.declared.cmp.Ordering.{Ordering}
use Rattle.std.specs.declared.cmp.Ordering.TheVariants.{Less, Equal, Greater}
use Rattle.std.specs.Ordering.{ordering_reverse, is_lt, is_gt}
use Rattle.task_events.specs.Answers.{hit_key}
use Rattle.task_events.specs.HitOrder.{hit_cmp, is_after}
use Rattle.search_phase.proofs.HitKeys.{hit_cmp_total}
use Rattle.search_phase.proofs.looking.is_after_cursor.Goals as goal

turned_round : (o : Ordering) → is_gt o ≡ is_lt (ordering_reverse o)
turned_round Less = refl
turned_round Equal = refl
turned_round Greater = refl

pub returns-in-Some : goal.returns-in-Some
returns-in-Some c =
    let key = hit_key c.args.ask.now.body c.args.ask.now.shard (c.args.place, c.args.doc.now) in
    c.is_gt.ensures ∙ ap is_gt c.compare_row.ensures ∙ turned_round (hit_cmp key c.in-Some.last) ∙ ap is_lt (sym (hit_cmp_total.antisymm c.in-Some.last key))
    ∙ ap (λ cursor. is_after cursor key) (sym c.in-Some.is)
