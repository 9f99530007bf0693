use Rattle.std.proofs.lemmas.Bool.{ne_eqb}
use Rattle.reindex.proofs.SliceLemmas.{pick_is}
use Rattle.reindex.proofs.searching.pick_of.Goals as goal

pub returns : goal.returns
returns c = pick_is c.args.slice c.args.slices c.args.shards _ _ (ne_eqb _ _ c.if-slices-eq1.false)
