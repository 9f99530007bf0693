use Rattle.std.proofs.Common.{sym, ◌∙◌}
use Rattle.query_parse.proofs.Nodes.{are_none-queries_view}
use Rattle.query_parse.proofs.reading.are_none.Goals as goal

pub returns : goal.returns
returns c = c.is_empty.ensures ∙ sym (are_none-queries_view c.args.nodes.now)
