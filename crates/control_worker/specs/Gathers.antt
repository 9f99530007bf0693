-- What a control worker gathers of a filter's matches: a part of each data worker of its node.
use Rattle.std.specs.Prelude.{ℕ, if◌then◌else◌, List, Option, None, Some, unwrap_or}
use Rattle.std.specs.FinMap.{FinMap, get, insert, remove}
use Rattle.std.specs.Ordering.{nat_cmp}
use Rattle.task_ids.specs.declared.task_info.TaskInfo.{TaskInfo}
use Rattle.cancel_core.specs.declared.act.Waiter.{Waiter}
use Rattle.data_pool.specs.Gathered.{Gathered, nothing_given, takes, with_part, is_whole, answer_of}
use Rattle.control_worker.specs.View.{View}
use Rattle.control_worker.specs.Steps.{Step, Nothing}
use Rattle.control_worker.specs.Matches.{Matches}

-- what was gathered for a cancel; at first no worker has told its part
abbrev pub gather_for : ℕ → View → Gathered
gather_for cancel v = unwrap_or (get v.gathers cancel) (nothing_given v.workers)

-- the rows of all data workers, once the part is the last; that of a worker that has told its own is passed over
abbrev pub gathered_by : ℕ → ℕ → List TaskInfo → View → Option (List TaskInfo)
gathered_by worker cancel rows v = if takes (gather_for cancel v) worker then answer_of (with_part (gather_for cancel v) worker rows) else None

-- a gather stays while a part is missing, and is forgotten with the last
abbrev pub put : FinMap nat_cmp Gathered → ℕ → Gathered → FinMap nat_cmp Gathered
put gathers cancel gathered = if is_whole gathered then remove gathers cancel else insert gathers cancel gathered

abbrev pub after_part : ℕ → ℕ → List TaskInfo → View → View
after_part worker cancel rows v = record v { gathers = if takes (gather_for cancel v) worker then put v.gathers cancel (with_part (gather_for cancel v) worker rows) else v.gathers }

-- what is done with all rows, and with a part that is not the last
abbrev pub MatchesIn : Option (List TaskInfo) → Waiter → Step
MatchesIn None waiter = Nothing
MatchesIn (Some all) waiter = Matches waiter all

-- a part is gathered, and the last one leads to the matches
unfoldable pub Gathers : ℕ → Waiter → List TaskInfo → Step
Gathers worker waiter rows v = MatchesIn (gathered_by worker waiter.cancel rows v) waiter (after_part worker waiter.cancel rows v)
