use Rattle.std.proofs.Common.{ap, ◌∙◌}
use Rattle.std.specs.FinMap as map
use Rattle.std.proofs.lemmas.Map.Views.{All-values-insert_entry}
use Rattle.task_ids.specs.Limits.{IsCancel}
use Rattle.task_ids.specs.TaskIdOrder.{task_id_cmp}
use Rattle.task_ids.proofs.TaskIdKeys.{one_put}
use Rattle.ban_table.proofs.BanTable.put.Goals as goal

pub returns-clause-put : goal.returns-clause-put
returns-clause-put c _ =
    one_put c.self.inside.bans.entries c.insert.new.self.entries c.args.parent c.args.cancel c.in_ok-insert.ensures.updates.0
    ∙ ap (λ m. map.insert m c.args.parent c.args.cancel) c.self.view_is

pub invariant_of-self-2 : goal.invariant_of-self-2
invariant_of-self-2 c =
    rw c.in_ok-insert.ensures.entries (All-values-insert_entry task_id_cmp c.args.parent c.args.cancel IsCancel _ c.self.invariant c.requires)
