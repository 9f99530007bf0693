use Rattle.std.proofs.Common.{◌≡◌, refl, ap, sym, ◌∙◌}
use Rattle.std.specs.BTreeMap.{get}
use Rattle.std.specs.FinMap as finite
use Rattle.task_ids.proofs.TaskIdKeys.{get_id}
use Rattle.task_ids.specs.declared.task_id.TaskId.{TaskId}
use Rattle.task_ids.specs.TaskIdOrder.{task_id_cmp}
use Rattle.task_events.specs.Contexts.{without_owned}
use Rattle.scroll_table.proofs.Cleared.{all_left, unowned}
use Rattle.scroll_table.proofs.table.ScrollTable.clear_owned.Goals as goal

pub returns-then-is_empty : goal.returns-then-is_empty
returns-then-is_empty c id =
    let o = get task_id_cmp c.self.inside.contexts id in
    let seen : o ≡ finite.get c.args.self.now id = sym (get_id c.self.inside.contexts.entries id) ∙ ap (λ m. finite.get m id) c.self.view_is in
    let none = sym (c.self.invariant.1 c.args.owner id) ∙ c.if-is_empty.ensures refl c.args.owner id in
    sym seen ∙ sym (all_left c.args.owner o (unowned c.args.owner o none)) ∙ ap (without_owned c.args.owner) seen

pub returns : goal.returns
returns c id =
    get_id c.clear_each.new.contexts.entries id
    ∙ c.clear_each.ensures.left id
    ∙ ap (without_owned c.args.owner) (sym (get_id c.self.inside.contexts.entries id) ∙ ap (λ m. finite.get m id) c.self.view_is)
