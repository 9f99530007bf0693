use Rattle.std.proofs.Common.{◌≡◌, drop}
use Rattle.serde_json.specs.Find.{get_member}
use Rattle.task_ids.specs.Json.{json_members}
use Rattle.query_parse.proofs.shape.member.Given as goal

-- what is left decides
abbrev pub invariant-loop-member : goal.invariant-loop-member
invariant-loop-member l = get_member l.name (json_members (drop l.member-index l.members)) ≡ get_member l.name (json_members l.members)
