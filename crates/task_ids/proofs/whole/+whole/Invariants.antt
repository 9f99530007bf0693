use Rattle.std.proofs.Common.{◌≡◌, drop}
use Rattle.serde_json.specs.View.{items_view, members_view}
use Rattle.serde_json.specs.Written.{items_have_float, members_have_float}
use Rattle.task_ids.proofs.whole.+whole.Given as goal

-- what is left decides
abbrev pub invariant-are_whole-loop-item : goal.invariant-are_whole-loop-item
invariant-are_whole-loop-item l = items_have_float (items_view (drop l.item-index l.items)) ≡ items_have_float (items_view l.items)

abbrev pub invariant-has_whole_members-loop-member : goal.invariant-has_whole_members-loop-member
invariant-has_whole_members-loop-member l = members_have_float (members_view l.member-iterator) ≡ members_have_float (members_view l.members.entries)
