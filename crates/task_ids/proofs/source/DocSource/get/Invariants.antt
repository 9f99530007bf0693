use Rattle.std.proofs.Common.{◌≡◌, drop}
use Rattle.serde_json.specs.Data.{object}
use Rattle.serde_json.specs.Find.{get, get_member}
use Rattle.task_ids.specs.Source.{members_in}
use Rattle.task_ids.proofs.source.DocSource.get.Given as goal

-- what is left decides
abbrev pub invariant-loop-member : goal.invariant-loop-member
invariant-loop-member l = get_member l.key (members_in (drop l.member-index l.member-items)) ≡ get l.key (object (members_in l.member-items))
