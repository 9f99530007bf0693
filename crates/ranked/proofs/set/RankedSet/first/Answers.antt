use Rattle.std.proofs.Common.{IsTrue, IfSome, subst}
use Rattle.std.specs.Prelude.{All}
use Rattle.std.specs.BTreeMap.Range.{IsLeBy}
use Rattle.std.specs.BTreeSet.{contains, IsLowerBound}
use Rattle.ranked.proofs.Keys.{lent_is_member, all_from_first, first_is_least}
use Rattle.ranked.proofs.set.RankedSet.first.Goals as goal

pub returns-clause-member : goal.returns-clause-member
returns-clause-member g c =
    subst (λ s. IfSome c.first.result (λ k. IsTrue (contains g.K.Ord.cmp s k.now))) c.self.view_is (lent_is_member g.met.K.Ord.total c.self.inside.keys 0 c.first.result c.first.ensures.found)

pub returns-clause-least : goal.returns-clause-least
returns-clause-least g c =
    subst (λ s. IfSome c.first.result (λ k. IsLowerBound g.K.Ord.cmp s k.now)) c.self.view_is (first_is_least g.met.K.Ord.total c.self.inside.keys c.self.invariant c.first.result c.first.ensures.found)

pub returns-clause-all_from : goal.returns-clause-all_from
returns-clause-all_from g c =
    subst (λ s. IfSome c.first.result (λ k. All (IsLeBy g.K.Ord.cmp k.now) s.keys)) c.self.view_is (all_from_first g.met.K.Ord.total c.self.inside.keys c.self.invariant c.first.result c.first.ensures.found)
