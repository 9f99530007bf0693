use Rattle.std.proofs.Common.{◌≡◌, List, map, IfOk, sym, ap, subst, ◌∙◌}
use Rattle.std.specs.FinMap.{keys}
use Rattle.task_ids.proofs.TaskIdKeys.{entries_of_rising}
use Rattle.task_ids.specs.declared.task_id.TaskId.{TaskId}
use Rattle.task_results.specs.Results.{Results}
use Rattle.task_results.proofs.table.ResultTable.list.Goals as goal

pub returns : goal.returns
returns c =
    let same = ap (map (λ e. e.0)) (sym (entries_of_rising c.self.inside.kept.entries c.listed.ensures.ordered)) ∙ ap (λ (r : Results). keys r.kept) c.self.view_is in
    subst (λ (ids : List TaskId). IfOk c.listed.result (λ list. list.items ≡ ids)) same c.listed.ensures.list
