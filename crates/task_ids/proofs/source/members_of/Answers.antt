use Rattle.std.proofs.Common.{◌≡◌, map, rules}
use Rattle.task_ids.proofs.Members.{entry, seen, same_members, still_ordered}
use Rattle.task_ids.proofs.source.members_of.Goals as goal

pub returns-clause-same : goal.returns-clause-same
returns-clause-same c =
    let all : map seen c.in_ok-new.field-0 ≡ map entry c.args.map.entries = search rules in
    same_members _ _ all

pub returns-clause-ordered : goal.returns-clause-ordered
returns-clause-ordered c =
    let all : map seen c.in_ok-new.field-0 ≡ map entry c.args.map.entries = search rules in
    still_ordered _ _ all c.len.ensures.ordered
