use Rattle.std.proofs.Common.{◌≡◌, None, drop, fold, option_map}
use Rattle.std.specs.List.{flat_map}
use Rattle.task_ids.specs.Source.{members_in}
use Rattle.query_match.specs.Found.{found_view}
use Rattle.query_match.specs.Sorting.{better}
use Rattle.query_match.specs.Values.{values_in, held_at}
use Rattle.doc_match.proofs.best.best_in_members.Given as goal

abbrev pub invariant-loop-member : goal.invariant-loop-member
invariant-loop-member l =
    fold (better l.descending) (option_map found_view l.best) (flat_map values_in (held_at l.field (members_in (drop l.member-index l.members))))
    ≡ fold (better l.descending) None (flat_map values_in (held_at l.field (members_in l.members)))
