-- A task with the tasks below it, at the levels of its loop.
use Rattle.std.proofs.Common.{◌≡◌, ℕ, zero, suc, List, [], map, refl, sym, ap}
use Rattle.serde_json.specs.Data.{Data}
use Rattle.task_ids.specs.declared.task_id.TaskId.{TaskId}
use Rattle.task_ids.specs.declared.task_info.TaskInfo.{TaskInfo}
use Rattle.tasks_api.specs.Lists.{tree_json}

-- with nothing below it
pub leaf : (look : List Data → TaskInfo → Data) (below : TaskId → List TaskInfo) (levels : ℕ) (row : TaskInfo) → below row.id ≡ [] → look [] row ≡ tree_json look below levels row
leaf look below zero row none = refl
leaf look below (suc levels) row none = ap (λ rows. look (map (λ child. tree_json look below levels child) rows) row) (sym none)

-- with the tasks below it one level deeper
pub tree : (look : List Data → TaskInfo → Data) (below : TaskId → List TaskInfo) (levels deeper : ℕ) (row : TaskInfo) (rows : List TaskInfo) (children : List Data) → levels ≡ suc deeper → below row.id ≡ rows
    → children ≡ map (λ child. tree_json look below deeper child) rows → look children row ≡ tree_json look below levels row
tree look below levels deeper row rows children one some are = rw (one, some, are) refl
