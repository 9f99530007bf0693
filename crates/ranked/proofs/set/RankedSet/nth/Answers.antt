use Rattle.std.proofs.Common.{IsTrue, IfSome, subst}
use Rattle.std.specs.BTreeSet.{contains}
use Rattle.ranked.proofs.Keys.{lent_is_member}
use Rattle.ranked.proofs.set.RankedSet.nth.Goals as goal

pub returns-clause-member : goal.returns-clause-member
returns-clause-member g c =
    subst (λ s. IfSome c.get.result (λ k. IsTrue (contains g.K.Ord.cmp s k.now))) c.self.view_is (lent_is_member g.met.K.Ord.total c.self.inside.keys c.args.rank c.get.result c.get.ensures.found)
