use Rattle.std.proofs.Common.{option_map, ap, ◌∙◌}
use Rattle.std.specs.Option.{option_to_list}
use Rattle.serde_json.specs.View.{view}
use Rattle.doc_match.proofs.Members.{lies_at, seen}
use Rattle.doc_match.proofs.field.member.Goals as goal

pub returns : goal.returns
returns c =
    ap option_to_list (seen c.get.result ∙ ap (option_map view) c.get.ensures.value)
    ∙ lies_at c.args.field.now c.args.members.now.entries c.requires c.len.ensures.ordered
