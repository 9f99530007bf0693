use Rattle.doc_match.proofs.Members.{lies_in}
use Rattle.doc_match.proofs.field.value_at.Goals as goal

pub returns : goal.returns
returns c = lies_in c.args.field.now c.args.source.now c.get.result c.requires c.get.ensures.source.is_object c.get.ensures.found c.get.ensures.alone
