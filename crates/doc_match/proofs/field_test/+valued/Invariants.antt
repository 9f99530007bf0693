use Rattle.std.proofs.Common.{◌≡◌, drop}
use Rattle.serde_json.specs.View.{items_view, members_view}
use Rattle.query_match.specs.Values.{some_has_value, some_key_has_value}
use Rattle.doc_match.proofs.field_test.+valued.Given as goal

abbrev pub invariant-some_has_value-loop-item : goal.invariant-some_has_value-loop-item
invariant-some_has_value-loop-item l = some_has_value (items_view l.items) ≡ some_has_value (items_view (drop l.item-index l.items))

abbrev pub invariant-some_key_has_value-loop-member : goal.invariant-some_key_has_value-loop-member
invariant-some_key_has_value-loop-member l = some_key_has_value (members_view l.initial.member-iterator) ≡ some_key_has_value (members_view l.member-iterator)
