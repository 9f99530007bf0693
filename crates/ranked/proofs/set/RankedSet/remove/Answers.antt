use Rattle.std.proofs.Common.{◌≡◌, false, subst}
use Rattle.std.specs.Set.{remove_key}
use Rattle.std.specs.BTreeMap.{is_at}
use Rattle.std.specs.BTreeSet.{contains, Updates}
use Rattle.ranked.proofs.Changed.{taken_test, taken_updates, taken_keys, taken_sorted}
use Rattle.ranked.proofs.set.RankedSet.remove.Goals as goal

pub invariant_of-self : goal.invariant_of-self
invariant_of-self g c =
    taken_sorted g.met.K.Ord.total c.args.key.now c.self.inside.keys c.take_key.new.self c.take_key.result c.take_key.ensures c.self.invariant

pub returns-clause-ordered : goal.returns-clause-ordered
returns-clause-ordered g c =
    taken_sorted g.met.K.Ord.total c.args.key.now c.self.inside.keys c.take_key.new.self c.take_key.result c.take_key.ensures c.self.invariant

pub returns-clause-test : goal.returns-clause-test
returns-clause-test g c =
    subst (λ s. c.take_key.result ≡ contains g.K.Ord.cmp s c.args.key.now) c.self.view_is (taken_test g.met.K.Ord.total c.args.key.now c.self.inside.keys c.take_key.new.self c.take_key.result c.take_key.ensures)

pub returns-clause-updates : goal.returns-clause-updates
returns-clause-updates g c =
    subst (λ s. Updates g.K.Ord.cmp s (record { keys = c.take_key.new.self }) c.args.key.now false) c.self.view_is (taken_updates g.met.K.Ord.total c.args.key.now c.self.inside.keys c.take_key.new.self c.take_key.result c.take_key.ensures)

pub returns-clause-keys : goal.returns-clause-keys
returns-clause-keys g c =
    subst (λ s. c.take_key.new.self ≡ remove_key (is_at (g.K.Ord.cmp c.args.key.now)) s.keys) c.self.view_is (taken_keys g.met.K.Ord.total c.args.key.now c.self.inside.keys c.take_key.new.self c.take_key.result c.take_key.ensures)
