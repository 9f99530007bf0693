use Rattle.std.proofs.Common.{sym, refl, ◌∙◌}
use Rattle.std.specs.BTreeMap.{get}
use Rattle.task_ids.specs.TaskIdOrder.{task_id_cmp}
use Rattle.scroll_table.proofs.Cleared.{one_cleared, same_left, up_to_one, none_more, all_left}
use Rattle.scroll_table.proofs.table.clear_each.Goals as goal

pub loop-id-preserved : goal.loop-id-preserved
loop-id-preserved c =
    let owner = c.args.owner in
    let old = c.loop-id.contexts in
    let new = c.clear_one.new.contexts in
    let changed = one_cleared owner old new c.in-Some.id c.clear_one.result c.clear_one.result refl c.clear_one.ensures.can c.clear_one.ensures.gone c.clear_one.ensures.stays in
    record {
      ends = c.clear_one.ensures.ends;
      owners = c.clear_one.ensures.owners;
      versions = c.clear_one.ensures.versions;
      left = λ q. same_left owner old new c.in-Some.id changed q ∙ c.loop-id.invariant.left q;
      passed = up_to_one owner old new c.in-Some.id changed c.loop-id.owners c.loop-id.after c.loop-id.invariant.owners c.loop-id.invariant.passed c.in-Some.ensures.skipped;
    }

pub returns-clause-left : goal.returns-clause-left
returns-clause-left c id =
    let spent = none_more c.args.owner c.loop-id.owners c.loop-id.after c.loop-id.contexts c.loop-id.invariant.owners c.loop-id.invariant.passed c.in_default.ensures.none id in
    sym (all_left c.args.owner (get task_id_cmp c.loop-id.contexts id) spent) ∙ c.loop-id.invariant.left id
