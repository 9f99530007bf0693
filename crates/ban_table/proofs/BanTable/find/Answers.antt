use Rattle.std.proofs.Common.{sym, ap, ◌∙◌}
use Rattle.std.specs.FinMap as map
use Rattle.task_ids.proofs.TaskIdKeys.{get_id}
use Rattle.ban_table.proofs.BanTable.find.Goals as goal

pub returns-clause-found : goal.returns-clause-found
returns-clause-found c = c.copied.ensures ∙ c.get.ensures.value ∙ sym (get_id c.self.inside.bans.entries c.args.parent) ∙ ap (λ m. map.get m c.args.parent) c.self.view_is
