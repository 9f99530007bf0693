use Rattle.std.proofs.Common.{◌≡◌, ◌++◌, map}
use Rattle.task_ids.proofs.Members.{entry, seen}
use Rattle.task_ids.proofs.source.members_of.Given as goal

-- with what is left they are all members
abbrev pub invariant-loop-key : goal.invariant-loop-key
invariant-loop-key l = map seen l.members.items ++ map entry l.key-iterator ≡ map entry l.fn.map.entries
