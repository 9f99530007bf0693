use Rattle.std.proofs.Common.{sym}
use Rattle.serde_json.specs.View.{view}
use Rattle.script_lang.proofs.Sources.{body_is_source}
use Rattle.script_lang.proofs.searches.search_in.Goals as goal

pub body_from-requires : goal.body_from-requires
body_from-requires c = body_is_source c.args.nodes (view c.args.value.now) _ _ _ _ _ c.requires.whole c.requires.nests (sym c.in_ok-parts.ensures)
