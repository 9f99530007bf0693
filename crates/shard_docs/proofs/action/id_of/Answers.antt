use Rattle.std.proofs.Common.{codes, sym}
use Rattle.serde_json.specs.View.{view}
use Rattle.shard_docs.proofs.FloatLemmas.{found_whole}
use Rattle.shard_docs.proofs.action.id_of.Goals as goal

pub written_id-requires : goal.written_id-requires
written_id-requires c = found_whole (codes "_id") (view c.args.target.now) (view c.in-Some.id.now) c.requires (sym c.in-Some.ensures)
