-- What contracts see of a ban table: the cancellation that banned each parent.
use Rattle.std.specs.Prelude.{ℕ, List, map}
use Rattle.std.specs.FinMap.{FinMap, entries}
use Rattle.task_ids.specs.TaskIdOrder.{task_id_cmp}
use Rattle.task_ids.specs.declared.task_id.TaskId.{TaskId}
use Rattle.ban_table.specs.declared.Ban.{Ban}

-- an entry of the map, as a ban
abbrev pub ban_of : TaskId × ℕ → Ban
ban_of entry = record { parent = entry.0; cancel = entry.1 }

-- the bans, by their parents
abbrev pub bans_of : FinMap task_id_cmp ℕ → List Ban
bans_of bans = map ban_of (entries bans)
