use Rattle.std.proofs.Common.{arith}
use Rattle.search_phase.proofs.Kept.{all_fit}
use Rattle.search_phase.proofs.keeping.keep.Goals as goal

pub returns-clause-keys : goal.returns-clause-keys
returns-clause-keys c = all_fit _ _ c.args.most c.in-Ok.ensures.permutation (omega (arith, c.args.first.now.data.ok.0, c.if-most-len.false, c.len.ensures))
