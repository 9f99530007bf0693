use Rattle.std.proofs.Common.{Some, option_map, cond, ap, sym, ◌∙◌}
use Rattle.std.specs.FinMap as finite
use Rattle.std.specs.Map.{lookup}
use Rattle.std.specs.BTreeMap.{is_at}
use Rattle.task_ids.specs.TaskIdOrder.{task_id_cmp}
use Rattle.task_ids.proofs.TaskIdKeys.{get_id, one_put}
use Rattle.scroll_table.specs.Ends.{end_of, kept_at}
use Rattle.scroll_table.specs.Owners.{is_of}
use Rattle.scroll_table.proofs.Owned.{owner_added, owner_back}
use Rattle.scroll_table.proofs.Timed.{one_changed, end_back}
use Rattle.scroll_table.proofs.table.ScrollTable.start.Goals as goal

pub add-requires-clause-fresh : goal.add-requires-clause-fresh
add-requires-clause-fresh c =
    let id = c.args.context.id in
    c.self.invariant.0.each id
    ∙ ap (option_map end_of) (sym (get_id c.self.inside.contexts.entries id) ∙ ap (λ m. finite.get m id) c.self.view_is ∙ c.requires.fresh)

pub put_in-requires-clause-fresh : goal.put_in-requires-clause-fresh
put_in-requires-clause-fresh c =
    let id = c.args.context.id in
    sym (get_id c.self.inside.contexts.entries id) ∙ ap (λ m. finite.get m id) c.self.view_is ∙ c.requires.fresh

pub invariant_of-self-in_default : goal.invariant_of-self-in_default
invariant_of-self-in_default c =
    let contexts = c.self.inside.contexts in
    let id = c.args.context.id in
    let none = sym (get_id contexts.entries id) ∙ ap (λ m. finite.get m id) c.self.view_is ∙ c.requires.fresh in (
      record {
        ends = c.remove.ensures.ends;
        each = end_back contexts id c.end_of.result (kept_at c.self.inside.ends) (kept_at c.add.new.self) (kept_at c.remove.new.self) none c.self.invariant.0.each c.in_ok-add.ensures.ok c.remove.ensures.removed;
      },
      λ o q. c.in_default.ensures.err o q ∙ c.self.invariant.1 o q,
      c.self.invariant.2,
    )

pub invariant_of-self-in-Ok-put_in : goal.invariant_of-self-in-Ok-put_in
invariant_of-self-in-Ok-put_in c =
    let contexts = c.self.inside.contexts in
    let context = c.args.context in
    let none = sym (get_id contexts.entries context.id) ∙ ap (λ m. finite.get m context.id) c.self.view_is ∙ c.requires.fresh in (
      record {
        ends = c.in_ok-add.ensures.ends;
        each = one_changed contexts c.put_in.new.contexts context.id (Some context) (kept_at c.self.inside.ends) (kept_at c.add.new.self) c.self.invariant.0.each c.in-Ok-put_in.ensures.ok
            (λ q. c.in_ok-add.ensures.ok q ∙ ap (λ end. cond (is_at (task_id_cmp context.id) q) (Some end) (kept_at c.self.inside.ends q)) c.end_of.ensures);
      },
      owner_added c.self.inside.owners contexts c.put_in.new.contexts context.id c.self.invariant.1 c.add-2.new.self context none c.in-Ok-put_in.ensures.ok c.in-Ok.ensures.ok,
      c.in-Ok-put_in.ensures.versions,
    )

pub invariant_of-self-in-Err : goal.invariant_of-self-in-Err
invariant_of-self-in-Err c =
    let contexts = c.self.inside.contexts in
    let id = c.args.context.id in
    let none = sym (get_id contexts.entries id) ∙ ap (λ m. finite.get m id) c.self.view_is ∙ c.requires.fresh in
    let timed = end_back contexts id c.end_of.result (kept_at c.self.inside.ends) (kept_at c.add.new.self) (kept_at c.remove-in-Err-2.new.self) none c.self.invariant.0.each c.in_ok-add.ensures.ok c.remove-in-Err-2.ensures.removed in
    let owned = owner_back c.self.inside.owners c.add-2.new.self c.remove-in-Err.new.self contexts id c.args.context.owner c.self.invariant.1 none c.in-Ok.ensures.ok c.remove-in-Err.ensures in (
      record {
        ends = c.remove-in-Err-2.ensures.ends;
        each = λ q. timed q ∙ ap (λ es. option_map end_of (lookup (is_at (task_id_cmp q)) es)) (sym c.in-Err.ensures.err);
      },
      λ o q. owned o q ∙ ap (λ es. is_of o (lookup (is_at (task_id_cmp q)) es)) (sym c.in-Err.ensures.err),
      c.in-Err.ensures.versions,
    )

pub returns-in-Ok-put_in-clause-ok : goal.returns-in-Ok-put_in-clause-ok
returns-in-Ok-put_in-clause-ok c =
    one_put c.self.inside.contexts.entries c.put_in.new.contexts.entries c.args.context.id c.args.context c.in-Ok-put_in.ensures.ok
    ∙ ap (λ m. finite.insert m c.args.context.id c.args.context) c.self.view_is
