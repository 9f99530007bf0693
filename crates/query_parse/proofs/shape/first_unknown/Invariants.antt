use Rattle.std.proofs.Common.{◌≡◌, map, not, drop}
use Rattle.std.specs.Prelude.{find}
use Rattle.task_ids.specs.Json.{json_members}
use Rattle.query_parse.specs.Reading.{member_keys, is_one_of}
use Rattle.query_parse.proofs.shape.first_unknown.Given as goal

abbrev pub invariant-loop-member : goal.invariant-loop-member
invariant-loop-member l = find (λ k. not (is_one_of (map (λ n. n.now) l.names) k)) (member_keys (json_members (drop l.member-index l.members))) ≡ find (λ k. not (is_one_of (map (λ n. n.now) l.names) k)) (member_keys (json_members l.members))
