use Rattle.std.proofs.Common.{Some, option_map, cond, ap, sym, ◌∙◌}
use Rattle.std.specs.FinMap as finite
use Rattle.std.specs.Map.{lookup}
use Rattle.std.specs.BTreeMap.{is_at}
use Rattle.task_ids.specs.TaskIdOrder.{task_id_cmp}
use Rattle.task_ids.proofs.TaskIdKeys.{get_id, one_put}
use Rattle.scroll_table.specs.Ends.{end_of, kept_at}
use Rattle.scroll_table.proofs.Timed.{one_changed, end_back}
use Rattle.point_in_time.specs.Pits.{Pits}
use Rattle.point_in_time.proofs.table.PitTable.start.Goals as goal

pub add-requires-clause-fresh : goal.add-requires-clause-fresh
add-requires-clause-fresh c =
    let id = c.args.pit.id in
    c.self.invariant.0.each id
    ∙ ap (option_map end_of) (sym (get_id c.self.inside.contexts.entries id) ∙ ap (λ (p : Pits). finite.get p.standing id) c.self.view_is ∙ c.requires.fresh)

pub put_in-requires-clause-fresh : goal.put_in-requires-clause-fresh
put_in-requires-clause-fresh c =
    let id = c.args.pit.id in
    sym (get_id c.self.inside.contexts.entries id) ∙ ap (λ (p : Pits). finite.get p.standing id) c.self.view_is ∙ c.requires.fresh

pub invariant_of-self-in-Ok : goal.invariant_of-self-in-Ok
invariant_of-self-in-Ok c =
    let contexts = c.self.inside.contexts in
    let id = c.args.pit.id in (
      record {
        ends = c.in_ok-add.ensures.ends;
        each = one_changed contexts c.put_in.new.contexts id (Some c.into_context-context.result) (kept_at c.self.inside.ends) (kept_at c.add.new.self) c.self.invariant.0.each c.in-Ok.ensures.ok
            (λ q. c.in_ok-add.ensures.ok q ∙ ap (λ end. cond (is_at (task_id_cmp id) q) (Some end) (kept_at c.self.inside.ends q)) c.end_of.ensures);
      },
      c.in-Ok.ensures.versions,
    )

pub invariant_of-self-in-Err : goal.invariant_of-self-in-Err
invariant_of-self-in-Err c =
    let contexts = c.self.inside.contexts in
    let id = c.args.pit.id in
    let none = sym (get_id contexts.entries id) ∙ ap (λ (p : Pits). finite.get p.standing id) c.self.view_is ∙ c.requires.fresh in
    let timed = end_back contexts id c.end_of.result (kept_at c.self.inside.ends) (kept_at c.add.new.self) (kept_at c.remove.new.self) none c.self.invariant.0.each c.in_ok-add.ensures.ok c.remove.ensures.removed in (
      record {
        ends = c.remove.ensures.ends;
        each = λ q. timed q ∙ ap (λ es. option_map end_of (lookup (is_at (task_id_cmp q)) es)) (sym c.in-Err.ensures.err);
      },
      c.in-Err.ensures.versions,
    )

pub returns-in-Ok-clause-ok : goal.returns-in-Ok-clause-ok
returns-in-Ok-clause-ok c =
    let id = c.args.pit.id in
    let context = c.into_context-context.result in
    ap (λ standing. record { standing = standing; cursors = c.self.inside.cursors }) (one_put c.self.inside.contexts.entries c.put_in.new.contexts.entries id context c.in-Ok.ensures.ok)
    ∙ ap (λ (p : Pits). record p { standing = finite.insert p.standing id context }) c.self.view_is
    ∙ ap (λ it. record c.args.self.now { standing = finite.insert c.args.self.now.standing id it }) c.into_context-context.ensures
