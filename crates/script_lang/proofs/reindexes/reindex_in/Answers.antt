use Rattle.std.proofs.Common.{sym}
use Rattle.serde_json.specs.View.{view}
use Rattle.script_lang.proofs.Sources.{reindex_body_is_source}
use Rattle.script_lang.proofs.reindexes.reindex_in.Goals as goal

pub new-requires : goal.new-requires
new-requires c =
    reindex_body_is_source c.args.nodes (view c.args.value.now) _ _ _ _ _ _ c.requires.whole c.requires.nests (sym c.in_ok-parts.ensures)
