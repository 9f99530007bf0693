use Rattle.std.proofs.Common.{sym, ap, ◌∙◌}
use Rattle.std.specs.FinMap as finite
use Rattle.task_ids.proofs.TaskIdKeys.{get_id}
use Rattle.task_results.specs.Results.{Results}
use Rattle.task_results.proofs.table.ResultTable.get.Goals as goal

pub returns : goal.returns
returns c = c.get.ensures.value ∙ sym (get_id c.self.inside.kept.entries c.args.id) ∙ ap (λ (r : Results). finite.get r.kept c.args.id) c.self.view_is
