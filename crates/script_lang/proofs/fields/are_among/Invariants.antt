use Rattle.std.proofs.Common.{◌≡◌, map}
use Rattle.serde_json.specs.View.{members_view}
use Rattle.script_lang.specs.Fields.{are_among}
use Rattle.script_lang.proofs.fields.are_among.Given as goal

-- the fields that are left decide
abbrev pub invariant-loop-key : goal.invariant-loop-key
invariant-loop-key l = are_among (map (λ n. n.now) l.names) (members_view l.members.entries) ≡ are_among (map (λ n. n.now) l.names) (members_view l.key-iterator)
