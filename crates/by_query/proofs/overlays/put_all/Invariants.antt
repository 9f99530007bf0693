use Rattle.std.proofs.Common.{◌≡◌, ◌-◌, drop, length}
use Rattle.serde_json.specs.View.{members_view}
use Rattle.task_ids.specs.Source.{members_in}
use Rattle.by_query.specs.Overlays.{with_members}
use Rattle.by_query.proofs.overlays.put_all.Given as goal

-- the last ones are there
abbrev pub invariant-loop-later : goal.invariant-loop-later
invariant-loop-later l = members_view l.all.entries ≡ with_members (members_in (drop (length l.fn.members - l.later) l.fn.members)) (members_view l.initial.all.entries)
