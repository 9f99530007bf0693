-- What was given of a list of tasks to which each of so many workers gives one part.
use Rattle.std.specs.Prelude.{ℕ, Bool, true, false, not, List, [], ◌∷◌, ◌++◌, Option, Some, None, set, replicate, slice_get, if◌then◌else◌, refl}
use Rattle.std.specs.Coded.{Coded, code_by, coded×, coded_bool, coded_list}
use Rattle.std.specs.List.{list_all}
use Rattle.std.specs.Option.{option_map_or}
use Rattle.std.specs.Ordering.{is_le}
use Rattle.task_ids.specs.TaskIdOrder.{task_id_cmp}
use Rattle.task_ids.specs.contracts.task_info.TaskInfo as task_info
use Rattle.task_ids.specs.declared.task_info.TaskInfo.{TaskInfo}

pub record Gathered : Type 0 where
  -- of each worker, whether it has given its part
  pub given : List Bool
  -- the rows of the parts that were given and not answered yet, in the order in which they came
  pub rows : List TaskInfo

abbrev pub coded_gathered : Coded Gathered
coded_gathered = code_by (List Bool × List TaskInfo) (coded× (coded_list coded_bool) (coded_list task_info.the_row.coded)) (λ g. (g.given, g.rows)) (λ p. record { given = p.0; rows = p.1 }) (λ _. refl)

-- none of so many workers has given its part
abbrev pub nothing_given : ℕ → Gathered
nothing_given parts = record { given = replicate parts false; rows = [] }

-- it is one of the workers, and has not given its part
abbrev pub takes : Gathered → ℕ → Bool
takes gathered worker = option_map_or not (slice_get gathered.given worker) false

abbrev pub with_part : Gathered → ℕ → List TaskInfo → Gathered
with_part gathered worker rows = record { given = set gathered.given worker true; rows = gathered.rows ++ rows }

-- each part was given
abbrev pub is_whole : Gathered → Bool
is_whole gathered = list_all (λ given. given) gathered.given

-- the row put where it stands among rows by ascending id, before those of its own id
abbrev pub placed : TaskInfo → List TaskInfo → List TaskInfo
placed row [] = row ∷ []
placed row (next ∷ later) = if is_le (task_id_cmp row.id next.id) then row ∷ next ∷ later else next ∷ placed row later

-- the rows by ascending id, those of one id in their order
abbrev pub in_id_order : List TaskInfo → List TaskInfo
in_id_order [] = []
in_id_order (row ∷ rows) = placed row (in_id_order rows)

-- all rows, once each part was given
abbrev pub answer_of : Gathered → Option (List TaskInfo)
answer_of gathered = if is_whole gathered then Some (in_id_order gathered.rows) else None

-- what stays after that: no row that was answered
abbrev pub left_by : Gathered → Gathered
left_by gathered = if is_whole gathered then record gathered { rows = [] } else gathered
