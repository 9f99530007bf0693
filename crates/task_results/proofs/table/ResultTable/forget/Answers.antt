use Rattle.std.proofs.Common.{is_some, sym, ap, ◌∙◌}
use Rattle.std.specs.FinMap as finite
use Rattle.task_ids.proofs.TaskIdKeys.{get_id, one_removed}
use Rattle.task_results.specs.Results.{Results}
use Rattle.task_results.proofs.table.ResultTable.forget.Goals as goal

pub returns-clause-stood : goal.returns-clause-stood
returns-clause-stood c =
    c.is_some.ensures ∙ ap is_some (c.remove.ensures.value ∙ sym (get_id c.self.inside.kept.entries c.args.id) ∙ ap (λ (r : Results). finite.get r.kept c.args.id) c.self.view_is)

pub returns-clause-gone : goal.returns-clause-gone
returns-clause-gone c =
    ap (λ kept. record { kept = kept; waiting = c.self.inside.waits }) (one_removed c.self.inside.kept.entries c.remove.new.self.entries c.args.id c.remove.ensures.updates.0)
    ∙ ap (λ (r : Results). record r { kept = finite.remove r.kept c.args.id }) c.self.view_is
