use Rattle.std.proofs.Common.{◌≡◌, drop}
use Rattle.std.specs.List.{list_any}
use Rattle.serde_json.specs.View.{items_view, members_view}
use Rattle.query_match.specs.Matching.{holds}
use Rattle.query_match.specs.Values.{held_at, held_behind_each}
use Rattle.doc_match.proofs.matching.+held.Given as goal

abbrev pub invariant-holds_by_keys-loop-key : goal.invariant-holds_by_keys-loop-key
invariant-holds_by_keys-loop-key l = list_any (holds l.test) (held_at l.field (members_view l.initial.key-iterator)) ≡ list_any (holds l.test) (held_at l.field (members_view l.key-iterator))

abbrev pub invariant-holds_behind_one-loop-item : goal.invariant-holds_behind_one-loop-item
invariant-holds_behind_one-loop-item l = list_any (holds l.test) (held_behind_each l.field (items_view l.items)) ≡ list_any (holds l.test) (held_behind_each l.field (items_view (drop l.item-index l.items)))
