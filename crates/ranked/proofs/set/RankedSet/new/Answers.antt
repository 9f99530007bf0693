use Rattle.std.proofs.Common.{[], sym, subst}
use Rattle.std.specs.List.Sorted.{IsStrictlySortedBy}
use Rattle.std.specs.declared.cmp.Ordering.{Ordering}
use Rattle.ranked.proofs.set.RankedSet.new.Goals as goal

none_sorted : {K : Type 0} (cmp : K → K → Ordering) → IsStrictlySortedBy cmp []
unfolding IsStrictlySortedBy
none_sorted cmp = tt

pub invariant_of-result : goal.invariant_of-result
invariant_of-result g c = subst (IsStrictlySortedBy g.K.Ord.cmp) (sym c.new.ensures) (none_sorted g.K.Ord.cmp)

pub returns-clause-ordered : goal.returns-clause-ordered
returns-clause-ordered g c = subst (IsStrictlySortedBy g.K.Ord.cmp) (sym c.new.ensures) (none_sorted g.K.Ord.cmp)
