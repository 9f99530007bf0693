use Rattle.std.proofs.Common.{◌≡◌, rules, length, subst, sym}
use Rattle.std.specs.List.Sorted.{IsSearchInRange}
use Rattle.std.proofs.lemmas.List.Sorted.{answers_always}
use Rattle.task_ids.specs.declared.task_info.TaskInfo.{TaskInfo}
use Rattle.task_table.proofs.Searched.{searched}
use Rattle.task_table.proofs.rows.place_of.Goals as goal

pub returns : goal.returns
returns c =
    let facts = c.binary_search_by_key.ensures in
    let key = λ (row : TaskInfo). row.id.number in
    let by_number = facts.position key (answers_always _ _ _ (λ f a r g called. search rules)) in
    let len : length c.args.rows.now.items ≡ c.args.rows.now.len = search rules in
    let found = searched _ c.args.number _ c.requires (subst (IsSearchInRange _) (sym len) facts.bound) by_number in
    rw c.ok.ensures.value (record { found = found.0; none = found.1 })
