-- Tasks that are grouped in a map.
use Rattle.std.specs.Prelude.{Bool, List, [], map, Vec}
use Rattle.std.specs.Borrow.{Bor}
use Rattle.std.specs.declared.alloc.Global.{Global}
use Rattle.std.specs.declared.hash.FoldHasher.{FoldHasher}
use Rattle.std.specs.declared.hash.BuildHasherDefault.{BuildHasherDefault}
use Rattle.std.specs.HashMap.{HashMap, get_by}
use Rattle.std.specs.Option.{option_map_or}
use Rattle.task_ids.specs.declared.task_info.TaskInfo.{TaskInfo}

abbrev pub Groups : Type 0 → Type 0
Groups K = HashMap K (Vec (Bor TaskInfo) Global) (BuildHasherDefault FoldHasher)

-- the tasks of the group whose key passes a test, in their order
abbrev pub group_in : {K : Type 0} → (K → Bool) → Groups K → List TaskInfo
group_in test groups = option_map_or (λ group. map (λ row. row.now) group.items) (get_by test groups) []
