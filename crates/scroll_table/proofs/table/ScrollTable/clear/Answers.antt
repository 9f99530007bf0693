use Rattle.std.proofs.Common.{◌≡◌, Bool, true, false, cond, None, refl, sym, ap, ◌∙◌}
use Rattle.std.specs.BTreeMap.{BTreeMap, get, is_at}
use Rattle.std.specs.FinMap as finite
use Rattle.task_ids.specs.TaskIdOrder.{task_id_cmp}
use Rattle.task_ids.specs.declared.task_id.TaskId.{TaskId}
use Rattle.task_ids.proofs.TaskIdKeys.{get_id, one_removed}
use Rattle.task_events.specs.declared.context.Context.{Context}
use Rattle.task_events.specs.Contexts.{can_clear}
use Rattle.scroll_table.proofs.table.ScrollTable.clear.Goals as goal

-- what is left is the map without that context, or all of it
left : (b result : Bool) → result ≡ b → (old new : BTreeMap TaskId Context) (id : TaskId) → (result ≡ true → (q : TaskId) → get task_id_cmp new q ≡ cond (is_at (task_id_cmp id) q) None (get task_id_cmp old q)) → (result ≡ false → new ≡ old)
    → finite.from_entries {R = task_id_cmp} new.entries ≡ cond result (finite.remove (finite.from_entries old.entries) id) (finite.from_entries old.entries)
left true result e old new id gone stays = one_removed old.entries new.entries id (gone e) ∙ sym (ap (λ b. cond b (finite.remove (finite.from_entries old.entries) id) (finite.from_entries old.entries)) e)
left false result e old new id gone stays = ap (λ m. finite.from_entries m.entries) (stays e) ∙ sym (ap (λ b. cond b (finite.remove (finite.from_entries old.entries) id) (finite.from_entries old.entries)) e)

pub returns-clause-can : goal.returns-clause-can
returns-clause-can c =
    c.clear_one.ensures.can
    ∙ ap (can_clear c.args.by) (sym (get_id c.self.inside.contexts.entries c.args.id) ∙ ap (λ m. finite.get m c.args.id) c.self.view_is)

pub returns-clause-cleared : goal.returns-clause-cleared
returns-clause-cleared c =
    left c.clear_one.result c.clear_one.result refl c.self.inside.contexts c.clear_one.new.contexts c.args.id c.clear_one.ensures.gone c.clear_one.ensures.stays
    ∙ ap (λ m. cond c.clear_one.result (finite.remove m c.args.id) m) c.self.view_is
