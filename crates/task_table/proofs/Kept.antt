-- A table stays one where a task goes.
use Rattle.std.proofs.Common.{◌≡◌, ℕ, ◌≤◌, ◌<◌, Bool, not, arith}
use Rattle.std.proofs.lemmas.List.Elements.{All-filter}
use Rattle.std.proofs.lemmas.List.Kept.{AllPairs-filter}
use Rattle.std.proofs.lemmas.List.Sums.{length-filter, count_by-le-length}
use Rattle.task_ids.specs.declared.task_info.TaskInfo.{TaskInfo}
use Rattle.task_table.specs.Rows.{has_number}
use Rattle.task_table.specs.Table.{Table, IsTable, without_task}

pub IsTable-without_task : (table : Table) (number : ℕ) → IsTable table → IsTable (without_task table number)
IsTable-without_task table number kept =
    let stays : TaskInfo → Bool = λ row. not (has_number number row) in
    record {
      node_in_range = kept.node_in_range;
      last_in_range = kept.last_in_range;
      in_slots = omega (arith, kept.in_slots, length-filter stays table.live, count_by-le-length stays table.live);
      ascending = AllPairs-filter (λ a b. a.id.number < b.id.number) stays table.live kept.ascending;
      given = All-filter stays (λ row. row.id.number ≤ table.last) table.live kept.given;
      of_node = All-filter stays (λ row. row.id.node ≡ table.node) table.live kept.of_node;
    }
