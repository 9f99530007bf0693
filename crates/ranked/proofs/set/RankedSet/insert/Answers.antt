use Rattle.std.proofs.Common.{◌≡◌, true, false, OnOk, OnErr, IfOk, subst}
use Rattle.std.specs.Prelude.{not}
use Rattle.std.specs.BTreeSet.{contains, insert_key, Updates}
use Rattle.ranked.proofs.Changed.{put_added, put_updates, put_keys, put_absent, put_sorted}
use Rattle.ranked.proofs.set.RankedSet.insert.Goals as goal

pub invariant_of-self : goal.invariant_of-self
invariant_of-self g c =
    put_sorted g.met.K.Ord.total c.args.key c.self.inside.keys c.insert_key.new.self c.insert_key.result c.insert_key.ensures.put c.self.invariant

pub returns-clause-ordered : goal.returns-clause-ordered
returns-clause-ordered g c =
    put_sorted g.met.K.Ord.total c.args.key c.self.inside.keys c.insert_key.new.self c.insert_key.result c.insert_key.ensures.put c.self.invariant

pub returns-clause-added : goal.returns-clause-added
returns-clause-added g c =
    subst (λ s. IfOk c.insert_key.result (λ added. added ≡ not (contains g.K.Ord.cmp s c.args.key))) c.self.view_is (put_added g.met.K.Ord.total c.args.key c.self.inside.keys c.insert_key.new.self c.insert_key.result c.insert_key.ensures.put)

pub returns-clause-updates : goal.returns-clause-updates
returns-clause-updates g c =
    subst (λ s. OnOk c.insert_key.result (Updates g.K.Ord.cmp s (record { keys = c.insert_key.new.self }) c.args.key true)) c.self.view_is (put_updates g.met.K.Ord.total c.args.key c.self.inside.keys c.insert_key.new.self c.insert_key.result c.insert_key.ensures.put)

pub returns-clause-keys : goal.returns-clause-keys
returns-clause-keys g c =
    subst (λ s. OnOk c.insert_key.result (c.insert_key.new.self ≡ insert_key g.K.Ord.cmp s.keys c.args.key)) c.self.view_is (put_keys g.met.K.Ord.total c.args.key c.self.inside.keys c.insert_key.new.self c.insert_key.result c.insert_key.ensures.put)

pub returns-clause-absent : goal.returns-clause-absent
returns-clause-absent g c =
    subst (λ s. OnErr c.insert_key.result (contains g.K.Ord.cmp s c.args.key ≡ false)) c.self.view_is (put_absent g.met.K.Ord.total c.args.key c.self.inside.keys c.insert_key.new.self c.insert_key.result c.insert_key.ensures.put)
