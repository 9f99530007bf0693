use Rattle.std.proofs.Common.{◌≡◌, map, drop}
use Rattle.std.specs.List.{list_all}
use Rattle.task_ids.specs.Json.{json_members}
use Rattle.query_parse.specs.Reading.{member_keys, is_one_of}
use Rattle.query_parse.proofs.shape.has_these_alone.Given as goal

abbrev pub invariant-loop-member : goal.invariant-loop-member
invariant-loop-member l = list_all (is_one_of (map (λ n. n.now) l.names)) (member_keys (json_members (drop l.member-index l.members))) ≡ list_all (is_one_of (map (λ n. n.now) l.names)) (member_keys (json_members l.members))
