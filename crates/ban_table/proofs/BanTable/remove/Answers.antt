use Rattle.std.proofs.Common.{is_some, sym, ap, ◌∙◌}
use Rattle.std.specs.FinMap as map
use Rattle.std.specs.BTreeMap.{is_at}
use Rattle.std.proofs.lemmas.Map.Views.{All-map-remove_entry}
use Rattle.task_ids.specs.Limits.{IsCancel}
use Rattle.task_ids.specs.TaskIdOrder.{task_id_cmp}
use Rattle.task_ids.proofs.TaskIdKeys.{get_id, one_removed}
use Rattle.ban_table.proofs.BanTable.remove.Goals as goal

pub returns-clause-stood : goal.returns-clause-stood
returns-clause-stood c =
    c.is_some.ensures ∙ ap is_some (c.remove.ensures.value ∙ sym (get_id c.self.inside.bans.entries c.args.parent) ∙ ap (λ m. map.get m c.args.parent) c.self.view_is)

pub returns-clause-removed : goal.returns-clause-removed
returns-clause-removed c =
    one_removed c.self.inside.bans.entries c.remove.new.self.entries c.args.parent c.remove.ensures.updates.0
    ∙ ap (λ m. map.remove m c.args.parent) c.self.view_is

pub invariant_of-self : goal.invariant_of-self
invariant_of-self c =
    rw c.remove.ensures.entries (All-map-remove_entry (is_at (task_id_cmp c.args.parent)) (λ e. e.1) IsCancel _ c.self.invariant)
