use Rattle.std.proofs.Common.{[], ap, ◌∙◌}
use Rattle.std.specs.FinMap.{get-empty}
use Rattle.std.specs.Option.{unwrap_or}
use Rattle.task_ids.specs.TaskIdOrder.{task_id_cmp}
use Rattle.task_results.specs.Results.{Results, waiting_for}
use Rattle.table_tests.proofs.results.a_result_stands_until_it_is_forgotten.Goals as goal

pub two_wait-requires : goal.two_wait-requires
two_wait-requires g c = ap (waiting_for _) (c.store.ensures ∙ ap (λ (r : Results). r.waiting) c.new-table.ensures) ∙ ap (λ o. unwrap_or o []) (get-empty task_id_cmp _)
