use Rattle.std.proofs.Common.{◌≡◌, ◌++◌, false, drop}
use Rattle.serde_json.specs.Written.{members_have_float, members_text}
use Rattle.task_ids.specs.Source.{members_in}
use Rattle.task_ids.proofs.source.push_members.Given as goal

-- with what is left it is the whole text
abbrev pub invariant-loop-member : goal.invariant-loop-member
invariant-loop-member l = (l.out.items ++ members_text l.later (members_in (drop l.member-index l.members)) ≡ l.fn.out.items ++ members_text false (members_in l.members))
    × (members_have_float (members_in (drop l.member-index l.members)) ≡ false)
