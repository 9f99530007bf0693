use Rattle.std.proofs.Common.{◌≡◌, ℕ, Option, None, true, IsSomeAnd, cond, sym, ap, subst, arith, ◌∙◌}
use Rattle.std.specs.BTreeMap.{get}
use Rattle.std.specs.FinMap as finite
use Rattle.task_ids.specs.TaskIdOrder.{task_id_cmp}
use Rattle.scroll_table.specs.Ends.{kept_at}
use Rattle.scroll_table.specs.Moments.{is_due}
use Rattle.scroll_table.proofs.Timed.{none_left, one_changed}
use Rattle.point_in_time.proofs.Gone.{none_gone, due_gone, left_gone, cursors_gone}
use Rattle.point_in_time.proofs.table.take_expired.Goals as goal

pub returns-clause-left : goal.returns-clause-left
returns-clause-left c id =
    let left = none_left c.args.now (get task_id_cmp c.loop-id.contexts id) (omega arith) (λ end is. c.in_default.ensures.none id end (c.loop-id.invariant.ends.each id ∙ is)) in
    sym left ∙ c.loop-id.invariant.left id

pub returns-clause-cursors : goal.returns-clause-cursors
returns-clause-cursors c id =
    let stays = none_gone c.args.now (get task_id_cmp c.loop-id.contexts id) (omega arith) (λ end is. c.in_default.ensures.none id end (c.loop-id.invariant.ends.each id ∙ is)) in
    sym (ap (λ b. cond b None (finite.get c.loop-id.cursors id)) stays) ∙ c.loop-id.invariant.spared id

pub loop-id-preserved : goal.loop-id-preserved
loop-id-preserved c =
    let old = c.loop-id.contexts in
    let new = c.take_out.new.contexts in
    let id = c.in-Some.id in
    let gone = due_gone c.args.now (get task_id_cmp old id) (omega arith) (subst (λ (o : Option (Option ℕ)). IsSomeAnd o (λ end. is_due c.args.now end ≡ true)) (c.loop-id.invariant.ends.each id) c.in-Some.ensures.due) in
    record {
      ends = record {
        ends = c.in-Some.ensures.ends;
        each = one_changed old new id None (kept_at c.loop-id.ends) (kept_at c.take_due.new.self) c.loop-id.invariant.ends.each c.take_out.ensures.gone c.in-Some.ensures.taken;
      };
      versions = c.take_out.ensures.versions;
      left = λ q. left_gone c.args.now old new id gone c.take_out.ensures.gone q ∙ c.loop-id.invariant.left q;
      spared = λ q. cursors_gone c.args.now old new id c.loop-id.cursors c.remove.new.self gone c.take_out.ensures.gone c.remove.ensures q ∙ c.loop-id.invariant.spared q;
      fewer = omega (arith, c.take_out.ensures.fewer, c.loop-id.invariant.fewer);
    }
