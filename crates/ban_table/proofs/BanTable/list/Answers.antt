use Rattle.std.proofs.Common.{ℕ, IfOk, map, ap, sym, subst, ◌≡◌, List, ◌∙◌}
use Rattle.std.specs.FinMap.{entries}
use Rattle.task_ids.specs.declared.task_id.TaskId.{TaskId}
use Rattle.task_ids.proofs.TaskIdKeys.{entries_of_rising}
use Rattle.ban_table.specs.Bans.{ban_of}
use Rattle.ban_table.proofs.BanTable.list.Goals as goal

pub returns : goal.returns
returns c =
    let same = sym (entries_of_rising c.self.inside.bans.entries c.listed.ensures.ordered) ∙ ap entries c.self.view_is in
    subst (λ (es : List (TaskId × ℕ)). IfOk c.listed.result (λ list. list.items ≡ map ban_of es)) same c.listed.ensures.list
