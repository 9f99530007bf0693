use Rattle.std.proofs.Common.{◌≡◌, drop}
use Rattle.std.specs.List.{list_any}
use Rattle.task_ids.specs.Source.{members_in}
use Rattle.query_match.specs.Matching.{holds}
use Rattle.query_match.specs.Values.{held_at}
use Rattle.doc_match.proofs.matching.holds_in_members.Given as goal

abbrev pub invariant-loop-member : goal.invariant-loop-member
invariant-loop-member l = list_any (holds l.test) (held_at l.field (members_in l.members)) ≡ list_any (holds l.test) (held_at l.field (members_in (drop l.member-index l.members)))
