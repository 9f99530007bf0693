use Rattle.std.proofs.Common.{◌≡◌, ◌++◌, take, map}
use Rattle.serde_json.specs.View.{view}
use Rattle.task_ids.specs.Json.{json_view, member_view}
use Rattle.task_ids.proofs.Jsons.{entry_view}
use Rattle.task_ids.proofs.json_value.+of.Given as goal

abbrev pub invariant-items_of-loop-value : goal.invariant-items_of-loop-value
invariant-items_of-loop-value l = map json_view l.items.items ≡ map view (take l.value-index l.values)

-- with what is left they are all members
abbrev pub invariant-members_of-loop-key : goal.invariant-members_of-loop-key
invariant-members_of-loop-key l = map member_view l.members.items ++ map entry_view l.key-iterator ≡ map entry_view l.map.entries
