use Rattle.std.proofs.Common.{ap, ◌∙◌}
use Rattle.std.specs.FinMap as finite
use Rattle.task_ids.proofs.TaskIdKeys.{one_put}
use Rattle.task_results.specs.Results.{Results}
use Rattle.task_results.proofs.table.ResultTable.store.Goals as goal

pub returns-clause-ok : goal.returns-clause-ok
returns-clause-ok c =
    ap (λ kept. record { kept = kept; waiting = c.self.inside.waits }) (one_put c.self.inside.kept.entries c.insert.new.self.entries c.args.id c.args.reply c.in_ok-insert.ensures.updates.0)
    ∙ ap (λ (r : Results). record r { kept = finite.insert r.kept c.args.id c.args.reply }) c.self.view_is
